-- Refusal 1 is given exactly for states that open, seek and row never leave: what they leave passes, and what passes is what they leave.
-- One way is computation: the tests of what a call leaves. The other is `geometry_is`: phases that pass bit for bit are open's own, since two
-- f32 that pass for the same are the same (`same_float`), and four entries make the array. The counters then leave two cases, seek's and
-- row's.
use Rattle.std.proofs.Common.{◌≡◌, refl, sym, ap, ◌∙◌, ◌⊎◌, inl, inr, Bool, true, false, ◌&&◌, ◌||◌, not, cond, List, [], ◌∷◌, ℕ, zero, suc, ◌+◌, ◌-◌, ◌*◌, ◌<◌, arith, T, leb, ltb, eqb, length, get_or, eq-eqb}
use mathlib.Core.Bool.{beq}
use lib.Ieee.{binary32, fits, is_nan, to_bits}
use lib.Ieee.Fits.{div-fits, of_int-fits}
use borrow.Author.Tests.{lt-leb, not-false}
use Rattle.laws.specs.Axes.{plain}
use Rattle.laws.specs.Floats.{f32}
use Rattle.laws.specs.Refusals.{first, accepted}
use Rattle.laws.proofs.Refusals.{Failed, failed_accepted}
use Rattle.image.specs.declared.layout.Layout.{Layout}
use Rattle.image.specs.Tests.{bad_siting, layout_tests}
use Rattle.image.proofs.Layouts.{sound, plain_axes}
use Rattle.fround.specs.Rounding.{is_same_float}
use Rattle.fround.proofs.Laws.{same_float}
use Rattle.taps.specs.declared.phases.Phase.{Phase}
use Rattle.taps.specs.Taps.{fraction_of, phase_of, pick_phase, phase_at, phases_of}
use Rattle.guided.specs.declared.geometry.Geometry.{Geometry}
use Rattle.guided.specs.declared.state.Reader.{Reader}
use Rattle.guided.specs.Calls.{geometry_of, reader_layout, top_of, fresh_h, fresh_f, done_h, done_f, reader_at, after_open, after_seek, after_row, same_phase, phase_in, bad_phases, bad_counters, bad_state}
use Rattle.guided.proofs.Acceptance.{state_tests, fine, both}

-- ---- what open, seek and row leave passes

passes : (a b c d : Bool) → a ≡ true → b ≡ false → c ≡ false → d ≡ false → (not a || (b || (c || d))) ≡ false
passes a b c d ea eb ec ed = rw (ea, eb, ec, ed) refl

first_pair : (a b : ℕ) (x : Bool) → not ((eqb a a && eqb b b) || x) ≡ false
first_pair a b x = rw (eq-eqb a a refl, eq-eqb b b refl) refl

second_pair : (a b : ℕ) (x : Bool) → not (x || (eqb a a && eqb b b)) ≡ false
second_pair a b true = refl
second_pair a b false = rw (eq-eqb a a refl, eq-eqb b b refl) refl

same_self : (a : Phase) → same_phase a a ≡ true
unfolding same_phase is_same_float
same_self a = rw (left a.left, eq-eqb (to_bits binary32 a.f) (to_bits binary32 a.f) refl) (go (is_nan a.f))
  where
    left : (b : Bool) → beq b b ≡ true
    left true = refl
    left false = refl

    go : (b : Bool) → (true && cond b b (not b && true)) ≡ true
    go true = refl
    go false = refl

phases_pass : (l : Layout) → bad_phases (geometry_of l) ≡ false
unfolding bad_phases geometry_of phases_of
phases_pass l = rw (same_self (phase_at l.rh 0), same_self (phase_at l.rh 1), same_self (phase_at l.rh 2), same_self (phase_at l.rh 3)) refl

-- a layout with plain axes in the place of its own
abbrev flat : Layout → Layout
flat l = record { w = l.w; h = l.h; rh = l.rh; rv = l.rv; cw = l.cw; ch = l.ch; across = plain; down = plain; sample_bytes = l.sample_bytes; maxval = l.maxval; range = l.range }

-- where 3 and 16 do not apply that is the layout itself, so that a reader fresh from an accepted open has the layout that open was given
pub plain_back : (l : Layout) → Failed (layout_tests false l) → bad_siting l ≡ false → reader_layout (after_open l) ≡ l
unfolding after_open reader_at reader_layout geometry_of
plain_back l f e = let p = plain_axes (sound false l f) e in flat_is p.0 p.1
  where
    flat_is : l.across ≡ plain → l.down ≡ plain → flat l ≡ l
    flat_is a d = λ i. record { w = l.w; h = l.h; rh = l.rh; rv = l.rv; cw = l.cw; ch = l.ch; across = sym a i; down = sym d i; sample_bytes = l.sample_bytes; maxval = l.maxval; range = l.range }

-- what open leaves, what seek leaves and what row leaves
pub after_open_passes : (l : Layout) → Failed (layout_tests false l) → bad_siting l ≡ false → bad_state (after_open l) ≡ false
unfolding bad_state bad_counters after_open reader_at reader_layout geometry_of top_of
after_open_passes l f e =
    passes (accepted (first (layout_tests false (flat l)))) (bad_phases (geometry_of l)) (leb l.h 0) (bad_counters (after_open l))
    (ap accepted (ap (λ (k : Layout). first (layout_tests false k)) (plain_back l f e) ∙ failed_accepted (layout_tests false l) f)) (phases_pass l) (lt-leb l.h 0 (sound false l f).h_some) (first_pair (fresh_h l 0) (fresh_f l 0) _)

module _ (s : Reader) (y : ℕ) (e : bad_state s ≡ false) (Y : y < s.geometry.h) where
  pub after_seek_passes : bad_state (after_seek s y) ≡ false
  unfolding bad_state bad_counters after_seek reader_at reader_layout
  after_seek_passes =
      let t = state_tests s e in
      passes (accepted (first (layout_tests false (reader_layout s)))) (bad_phases s.geometry) (leb s.geometry.h y) (bad_counters (after_seek s y))
      t.0 t.1 (lt-leb s.geometry.h y Y) (first_pair (fresh_h (reader_layout s) y) (fresh_f (reader_layout s) y) _)

  pub after_row_passes : bad_state (after_row s y) ≡ false
  unfolding bad_state bad_counters after_row reader_at reader_layout
  after_row_passes =
      let t = state_tests s e in
      passes (accepted (first (layout_tests false (reader_layout s)))) (bad_phases s.geometry) (leb s.geometry.h y) (bad_counters (after_row s y))
      t.0 t.1 (lt-leb s.geometry.h y Y) (second_pair (done_h (reader_layout s) y) (done_f (reader_layout s) y) (eqb (done_h (reader_layout s) y) (fresh_h (reader_layout s) y) && eqb (done_f (reader_layout s) y) (fresh_f (reader_layout s) y)))

-- ---- what passes is what they leave

-- facts of a reader's type: an array of four phases, each with an f32
pub record Typed (s : Reader) : Type 0 where
  pub four : length s.geometry.phases ≡ 4
  pub floats : (k : ℕ) → T (fits binary32 (phase_in s.geometry k).f)

phase_fits : (r k : ℕ) → T (fits binary32 (phase_at r k).f)
unfolding phase_at phase_of
phase_fits r k = go (leb r k) (ltb (2 * k + 1) r)
  where
    go : (a b : Bool) → T (fits binary32 (pick_phase a (record { left = false; f = f32 0 }) (pick_phase b (record { left = true; f = fraction_of (2 * k + 1 + r) (2 * r) }) (record { left = false; f = fraction_of (2 * k + 1 - r) (2 * r) }))).f)
    go true b = of_int-fits binary32 _
    go false true = div-fits binary32 _ _
    go false false = div-fits binary32 _ _

beq_is : (a b : Bool) → beq a b ≡ true → a ≡ b
beq_is true true e = refl
beq_is false false e = refl
beq_is true false e = sym e
beq_is false true e = e

-- phases that pass for the same are the same
phase_is : (a b : Phase) → T (fits binary32 a.f) → T (fits binary32 b.f) → same_phase a b ≡ true → a ≡ b
unfolding same_phase
phase_is a b h k e =
    let p = both (beq a.left b.left) (is_same_float a.f b.f) e in
    let l : a.left ≡ b.left = beq_is a.left b.left p.0 in
    let f : a.f ≡ b.f = same_float a.f b.f h k p.1 in
    λ t. record { left = l t; f = f t }

phases_are : (g : Geometry) → bad_phases g ≡ false → ((k : ℕ) → T (fits binary32 (phase_in g k).f)) → (k : ℕ) → k < 4 → phase_in g k ≡ phase_at g.rh k
unfolding bad_phases
phases_are g e h k K = go k K
  where
    same : (k : ℕ) → Bool
    same k = same_phase (phase_in g k) (phase_at g.rh k)

    p : (same 0 ≡ true) × ((same 1 && (same 2 && same 3)) ≡ true)
    p = both (same 0) (same 1 && (same 2 && same 3)) (not-false _ e)

    q : (same 1 ≡ true) × ((same 2 && same 3) ≡ true)
    q = both (same 1) (same 2 && same 3) p.1

    r : (same 2 ≡ true) × (same 3 ≡ true)
    r = both (same 2) (same 3) q.1

    is : (k : ℕ) → same k ≡ true → phase_in g k ≡ phase_at g.rh k
    is k d = phase_is (phase_in g k) (phase_at g.rh k) (h k) (phase_fits g.rh k) d

    go : (k : ℕ) → k < 4 → phase_in g k ≡ phase_at g.rh k
    go zero K = is 0 p.0
    go (suc zero) K = is 1 q.0
    go (suc (suc zero)) K = is 2 r.0
    go (suc (suc (suc zero))) K = is 3 r.1
    go (suc (suc (suc (suc k)))) K = absurd (omega arith)

-- four entries are the list
four_is : (ps : List Phase) (d : Phase) (f : ℕ → Phase) → length ps ≡ 4 → ((k : ℕ) → k < 4 → get_or ps k d ≡ f k) → ps ≡ f 0 ∷ f 1 ∷ f 2 ∷ f 3 ∷ []
four_is [] d f n e = absurd (omega arith)
four_is (a ∷ []) d f n e = absurd (omega arith)
four_is (a ∷ b ∷ []) d f n e = absurd (omega arith)
four_is (a ∷ b ∷ c ∷ []) d f n e = absurd (omega arith)
four_is (a ∷ b ∷ c ∷ x ∷ []) d f n e = rw (e 0 (omega arith), e 1 (omega arith), e 2 (omega arith), e 3 (omega arith)) refl
four_is (a ∷ b ∷ c ∷ x ∷ y ∷ ps) d f n e = absurd (omega arith)

-- the geometry of a state that passes is the one that open makes of its numbers
pub geometry_is : (s : Reader) → Typed s → bad_state s ≡ false → s.geometry ≡ geometry_of (reader_layout s)
unfolding geometry_of reader_layout phases_of
geometry_is s t e =
    let g = s.geometry in
    let q : g.phases ≡ phases_of g.rh = four_is g.phases _ (phase_at g.rh) t.four (phases_are g (state_tests s e).1 t.floats) in
    λ i. record { w = g.w; h = g.h; rh = g.rh; rv = g.rv; cw = g.cw; ch = g.ch; phases = q i; range = g.range }

-- a state that passes is the one that seek, or row, leaves at its place in a reader fresh from open
pub left_states : (s : Reader) → Typed s → bad_state s ≡ false → (s ≡ after_seek (after_open (reader_layout s)) s.place) ⊎ (s ≡ after_row (after_open (reader_layout s)) s.place)
unfolding after_seek after_row after_open reader_at reader_layout geometry_of
left_states s t e =
    let g = geometry_is s t e in
    elim (fine s e).counters [
      | inl c ↦ inl (λ i. record { geometry = g i; sample_bytes = s.sample_bytes; maxval = s.maxval; place = s.place; h_next = c.0 i; f_next = c.1 i })
      | inr c ↦ inr (λ i. record { geometry = g i; sample_bytes = s.sample_bytes; maxval = s.maxval; place = s.place; h_next = c.0 i; f_next = c.1 i })
    ]
