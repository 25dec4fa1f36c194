-- Demand 3, proved; and that a call which meets the premise is not turned away without a reason.
-- Runs says that a row given is the guided row; Extremes and Locality then say the rest of that row. Acceptance of later calls is their tests,
-- read off the invariant `InStep`.
use Rattle.std.proofs.Common.{◌≡◌, refl, sym, ap, ◌∙◌, subst, Bool, true, false, cond, ◌&&◌, ◌||◌, List, ℕ, ◌/◌, ◌≤◌, ◌<◌, zero-le, ltb, length, get_or, Float, le-ltb, Ok}
use borrow.Author.Tests.{lt-leb}
use Rattle.laws.specs.Floats.{f32}
use Rattle.laws.specs.Refusals.{first}
use Rattle.laws.proofs.Refusals.{failed_accepted}
use Rattle.laws.proofs.Lists.{table_at}
use Rattle.image.specs.declared.layout.Layout.{Layout}
use Rattle.image.specs.Samples.{sample_at, sample_of, place}
use Rattle.image.specs.declared.chroma.Chroma.{Chroma}
use Rattle.image.specs.Picture.{chroma_plane, inside, picture_of, ranged, SameButRange, bad_planes}
use Rattle.image.proofs.Pictures.{sample_small}
use Rattle.image.specs.Scratch.{scratch_need}
use Rattle.guided.specs.Guided.{guided_sample, guided_row}
use Rattle.guided.specs.Calls.{reader_layout, OpenCall, SeekCall, RowCall, seek_tests, row_tests, Bytes}
use Rattle.guided.specs.Events.{RowEvent, Event, AllRan, Since, Start, After, picture_by, Premise, given, Within, AlikeNear, Run, Demand3}
use Rattle.guided.proofs.Locality.{guided_local}
use Rattle.guided.proofs.Extremes.{guided_within, within_number}
use Rattle.guided.proofs.Runs.{InStep, Good, Gave, gave, after, after_ok}

-- a chroma sample of a picture is at most 65,535
picture_small : (o : OpenCall) → Bytes o → (k : Chroma) (j i : ℕ) → (picture_by o).chroma k j i ≤ 65535
unfolding Bytes picture_of inside sample_at
picture_small o b k j i =
    let l = o.layout in
    let q = chroma_plane o.planes k in
    go (ltb i l.cw && ltb j l.ch) (sample_of l.sample_bytes q.bytes (place l.sample_bytes q.stride j i)) (sample_small l.sample_bytes q.bytes (place l.sample_bytes q.stride j i) (b k))
  where
    go : (t : Bool) (v : ℕ) → v ≤ 65535 → cond t v 0 ≤ 65535
    go true v h = h
    go false v h = zero-le

module _ (o : OpenCall) (e : RowEvent) (es : List Event) (run : Run o e es) where
  fact : Gave o e
  fact = gave o e Start es run.ran run.premise tt run.gives

  sample_is : (k : Chroma) (x : ℕ) → x < o.layout.w → get_or (given o e k) x (f32 0) ≡ guided_sample (picture_by o) k e.call.y x
  unfolding guided_row picture_of
  sample_is k x X = ap (λ (l : List Float). get_or l x (f32 0)) (fact.is k) ∙ table_at o.layout.w (guided_sample (picture_by o) k e.call.y) x (f32 0) X

  sample_within : (k : Chroma) (x : ℕ) → x < o.layout.w → Within (picture_by o) k (e.call.y / o.layout.rv) (x / o.layout.rh) (get_or (given o e k) x (f32 0))
  unfolding picture_of
  sample_within k x X =
      subst (λ (v : Float). Within (picture_by o) k (e.call.y / o.layout.rv) (x / o.layout.rh) v) (sym (sample_is k x X))
      (guided_within (picture_by o) k e.call.y x (picture_small o fact.bytes k))

  sample_local : (u : OpenCall) (k : Chroma) (x : ℕ) → x < o.layout.w → AlikeNear (picture_by o) (picture_by u) (e.call.y / o.layout.rv) (x / o.layout.rh)
      → guided_sample (picture_by o) k e.call.y x ≡ guided_sample (picture_by u) k e.call.y x
  unfolding picture_of
  sample_local u k x X a = guided_local (picture_by o) (picture_by u) k e.call.y x fact.sound X fact.inside a

same_width : (o u : OpenCall) (i j : ℕ) → AlikeNear (picture_by o) (picture_by u) j i → o.layout.w ≡ u.layout.w
unfolding picture_of SameButRange ranged
same_width o u i j a = ap (λ (l : Layout). l.w) a.layout

-- demand 3
pub demand_3 : Demand3
demand_3 = record {
  guided = λ o e es run k. (fact o e es run).is k;
  within = sample_within;
  bits = λ o e es run k x X. within_number (picture_by o) k (x / o.layout.rh) (e.call.y / o.layout.rv) _ (sample_within o e es run k x X);
  local = λ o u e d es ds run ran y k x X a.
      sample_is o e es run k x X
      ∙ sample_local o e es run u k x X a
      ∙ ap (λ (n : ℕ). guided_sample (picture_by u) k n x) y
      ∙ sym (sample_is u d ds ran k x (subst (λ (n : ℕ). x < n) (same_width o u _ _ a) X));
}

-- ---- calls that are accepted

or_false : (a b : Bool) → a ≡ false → b ≡ false → (a || b) ≡ false
or_false a b e f = rw (e, f) refl

-- after any list that meets the premise, with s what its accepted calls left
module _ (es : List Event) (ran : AllRan es) (premise : Premise Start es) (s : Since) (now : after Start es ≡ After s) where
  ok : InStep s
  ok = subst Good now (after_ok Start es ran premise tt)

  room : scratch_need s.by.layout ≤ length s.scratch
  unfolding picture_of
  room = ok.win.room.0

  -- a seek to any row of the picture is accepted
  pub seek_accepted : (k : SeekCall) → k.reader ≡ s.reader → k.y < s.by.layout.h → first (seek_tests k) ≡ Ok tt
  unfolding seek_tests reader_layout
  seek_accepted k e h = failed_accepted (seek_tests k) (rw e ok.state, (lt-leb k.reader.geometry.h k.y (subst (λ (l : Layout). k.y < l.h) (sym (ap reader_layout e ∙ ok.layout)) h), tt))

  -- a row call from the place to the last row, with room for its planes and outputs, is accepted
  pub row_accepted : (c : RowCall) → c.reader ≡ s.reader → c.scratch ≡ s.scratch → bad_planes s.by.layout c.planes ≡ false → s.by.layout.w ≤ length c.out_cb → s.by.layout.w ≤ length c.out_cr
      → s.reader.place ≤ c.y → c.y < s.by.layout.h → first (row_tests c) ≡ Ok tt
  unfolding row_tests
  row_accepted c er es planes cb cr onward below =
      let l = reader_layout c.reader in
      let lay : s.by.layout ≡ l = sym (ap reader_layout er ∙ ok.layout) in
      failed_accepted (row_tests c) (
        rw er ok.state,
        (
          subst (λ (m : Layout). bad_planes m c.planes ≡ false) lay planes,
          (
            le-ltb (length c.scratch) (scratch_need l) (subst (λ (m : Layout). scratch_need m ≤ length c.scratch) lay (rw es room)),
            (
              or_false (ltb (length c.out_cb) l.w) (ltb (length c.out_cr) l.w) (le-ltb (length c.out_cb) l.w (subst (λ (m : Layout). m.w ≤ length c.out_cb) lay cb)) (le-ltb (length c.out_cr) l.w (subst (λ (m : Layout). m.w ≤ length c.out_cr) lay cr)),
              (
                lt-leb l.h c.y (subst (λ (m : Layout). c.y < m.h) lay below),
                (le-ltb c.y c.reader.place (rw er onward), tt),
              ),
            ),
          ),
        ),
      )

  -- the planes of the open itself are such
  pub own_planes : bad_planes s.by.layout s.by.planes ≡ false
  own_planes = ok.planes
