-- What an accepted open, seek or row was handed.
-- An accepted call has all its tests failed, and each test that failed is turned into the inequality that it stands for; only the counters of
-- a state need a case split.
use Rattle.std.proofs.Common.{◌≡◌, refl, sym, ◌∙◌, ◌⊎◌, inl, inr, Bool, true, false, ◌&&◌, ◌||◌, not, List, ℕ, ◌≤◌, ◌<◌, arith, T, leb, ltb, eqb, length, ltb-false, leb-false, eqb-true}
use borrow.Author.Tests.{not-false}
use Rattle.laws.specs.Refusals.{Answer, Test, first, accepted}
use Rattle.laws.proofs.Refusals.{Failed, accepted_failed, accepted_is, failed_both}
use Rattle.image.specs.Tests.{bad_siting, layout_tests}
use Rattle.image.specs.Inner.Tests.{Sound}
use Rattle.image.specs.Picture.{bad_planes}
use Rattle.image.specs.Limits.{above_any}
use Rattle.image.proofs.Layouts.{neither, sound_answer}
use Rattle.image.specs.Scratch.{scratch_need}
use Rattle.guided.specs.declared.state.Reader.{Reader}
use Rattle.guided.specs.Calls.{reader_layout, fresh_h, fresh_f, done_h, done_f, bad_phases, bad_counters, bad_state, OpenCall, SeekCall, RowCall, open_tests, seek_tests, row_tests}
use Rattle.guided.proofs.Window.{Counters}

-- a test that holds is true
pub is_true : (b : Bool) → T b → b ≡ true
is_true true t = refl
is_true false t = absurd t

-- an answer that is no refusal: every test failed
pub all_failed : (ts : List Test) (a : Answer) → a ≡ first ts → T (accepted a) → Failed ts
all_failed ts a e t = accepted_failed ts (sym e ∙ accepted_is a (is_true (accepted a) t))

-- two tests that both apply
pub both : (a b : Bool) → (a && b) ≡ true → (a ≡ true) × (b ≡ true)
both true b e = (refl, e)
both false b e = let z : ◌≡◌ {A = ℕ} 0 1 = cc in absurd (omega arith)

either : (a b : Bool) → (a || b) ≡ true → (a ≡ true) ⊎ (b ≡ true)
either true b e = inl refl
either false b e = inr e

two_equal : (a b c d : ℕ) → (eqb a b && eqb c d) ≡ true → (a ≡ b) × (c ≡ d)
two_equal a b c d e = let p = both (eqb a b) (eqb c d) e in (eqb-true a b p.0, eqb-true c d p.1)

-- ---- a state that passes

-- its four tests, each failed
pub state_tests : (s : Reader) → bad_state s ≡ false → (accepted (first (layout_tests false (reader_layout s))) ≡ true) × (bad_phases s.geometry ≡ false) × (s.place < s.geometry.h) × (bad_counters s ≡ false)
unfolding bad_state
state_tests s e =
    let a = neither (not (accepted (first (layout_tests false (reader_layout s))))) (bad_phases s.geometry || (leb s.geometry.h s.place || bad_counters s)) e in
    let b = neither (bad_phases s.geometry) (leb s.geometry.h s.place || bad_counters s) a.1 in
    let c = neither (leb s.geometry.h s.place) (bad_counters s) b.1 in
    (not-false _ a.0, b.0, leb-false s.geometry.h s.place c.0, c.1)

counters_are : (s : Reader) → bad_counters s ≡ false → Counters (reader_layout s) s.place s.h_next s.f_next
unfolding bad_counters
counters_are s e =
    let l = reader_layout s in
    let y = s.place in
    elim (either (eqb s.h_next (fresh_h l y) && eqb s.f_next (fresh_f l y)) (eqb s.h_next (done_h l y) && eqb s.f_next (done_f l y)) (not-false _ e)) [
      | inl a ↦ inl (two_equal s.h_next (fresh_h l y) s.f_next (fresh_f l y) a)
      | inr a ↦ inr (two_equal s.h_next (done_h l y) s.f_next (done_f l y) a)
    ]

-- a sound layout, a place in the picture, and counters that open, seek or row leaves there
pub record Fine (s : Reader) : Type 0 where
  pub sound : Sound (reader_layout s)
  pub place : s.place < (reader_layout s).h
  pub counters : Counters (reader_layout s) s.place s.h_next s.f_next

-- what a state is that passes
pub fine : (s : Reader) → bad_state s ≡ false → Fine s
unfolding reader_layout
fine s e = let t = state_tests s e in record { sound = sound_answer false (reader_layout s) t.0; place = t.2; counters = counters_are s t.3 }

-- ---- the calls

pub record OpenHanded (o : OpenCall) : Type 0 where
  pub layout : Failed (layout_tests false o.layout)
  pub siting : bad_siting o.layout ≡ false
  pub planes : bad_planes o.layout o.planes ≡ false
  pub limits : above_any o.layout o.planes ≡ false
  pub room : scratch_need o.layout ≤ length o.scratch

-- what an accepted open was handed
pub open_handed : (o : OpenCall) → Failed (open_tests o) → OpenHanded o
unfolding open_tests
open_handed o h =
    let f = failed_both (layout_tests false o.layout) _ h in
    record { layout = f.0; siting = f.1.0; planes = f.1.1.0; limits = f.1.1.1.0; room = ltb-false (length o.scratch) (scratch_need o.layout) f.1.1.1.1.0 }

pub record SeekHanded (k : SeekCall) : Type 0 where
  pub state : bad_state k.reader ≡ false
  pub inside : k.y < k.reader.geometry.h

-- what an accepted seek was handed
pub seek_handed : (k : SeekCall) → Failed (seek_tests k) → SeekHanded k
unfolding seek_tests
seek_handed k f = record { state = f.0; inside = leb-false k.reader.geometry.h k.y f.1.0 }

pub record RowHanded (r : RowCall) : Type 0 where
  pub state : bad_state r.reader ≡ false
  pub planes : bad_planes (reader_layout r.reader) r.planes ≡ false
  pub room : scratch_need (reader_layout r.reader) ≤ length r.scratch
  pub cb : (reader_layout r.reader).w ≤ length r.out_cb
  pub cr : (reader_layout r.reader).w ≤ length r.out_cr
  pub inside : r.y < (reader_layout r.reader).h
  pub onward : r.reader.place ≤ r.y

-- what an accepted row call was handed
pub row_handed : (r : RowCall) → Failed (row_tests r) → RowHanded r
unfolding row_tests
row_handed r f =
    let l = reader_layout r.reader in
    let o = neither (ltb (length r.out_cb) l.w) (ltb (length r.out_cr) l.w) f.1.1.1.0 in
    record {
      state = f.0;
      planes = f.1.0;
      room = ltb-false (length r.scratch) (scratch_need l) f.1.1.0;
      cb = ltb-false (length r.out_cb) l.w o.0;
      cr = ltb-false (length r.out_cr) l.w o.1;
      inside = leb-false l.h r.y f.1.1.1.1.0;
      onward = ltb-false r.y r.reader.place f.1.1.1.1.1.0;
    }
