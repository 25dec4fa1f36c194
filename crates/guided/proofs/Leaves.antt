-- A state passes exactly when some list of accepted calls leaves it.
-- One way is by cases of the last call. For the other LeftStates names the call, a seek or a row after an open, and what is left is to have
-- such calls accepted: planes of zeros, scratch and outputs of just the length that the tests ask for.
use Rattle.std.proofs.Common.{◌≡◌, refl, ◌∙◌, inl, inr, Bool, true, false, cond, ℕ, zero, suc, ◌+◌, ◌-◌, ◌*◌, ◌<◌, zero-le, le_refl, ltb, eqb, length, get_or, replicate, le-ltb, Ok}
use lib.ListN.{length-replicate}
use lib.Ieee.{nan}
use borrow.Author.Tests.{lt-leb}
use Rattle.laws.specs.Refusals.{first, accepted}
use Rattle.laws.proofs.Refusals.{accepted_failed, accepted_is, failed_accepted, passed_early}
use Rattle.image.specs.declared.layout.Layout.{Layout}
use Rattle.image.specs.Tests.{bad_siting, layout_tests, bad_plane}
use Rattle.image.specs.Samples.{Plane, sample_of, sample_at}
use Rattle.image.specs.Picture.{short_plane, bad_planes, Planes}
use Rattle.image.specs.Limits.{above, above_any}
use Rattle.image.proofs.Any.{none_any}
use Rattle.image.specs.Scratch.{scratch_need}
use Rattle.guided.specs.declared.state.Reader.{Reader}
use Rattle.guided.specs.Calls.{reader_layout, geometry_of, reader_at, after_open, after_seek, after_row, bad_state, OpenCall, SeekCall, RowCall, open_tests, seek_tests, row_tests}
use Rattle.guided.proofs.Acceptance.{state_tests, open_handed, seek_handed, row_handed}
use Rattle.guided.proofs.LeftStates.{after_open_passes, after_seek_passes, after_row_passes, Typed, left_states}

-- s is what an accepted open leaves, or an accepted seek or row in a state that was left
pub data Left : Reader → Type 0 where
  by_open : {s : Reader} (o : OpenCall) → first (open_tests o) ≡ Ok tt → s ≡ after_open o.layout → Left s
  by_seek : {s : Reader} (k : SeekCall) → Left k.reader → first (seek_tests k) ≡ Ok tt → s ≡ after_seek k.reader k.y → Left s
  by_row : {s : Reader} (c : RowCall) → Left c.reader → first (row_tests c) ≡ Ok tt → s ≡ after_row c.reader c.y → Left s

-- what is left passes
pub left_passes : (s : Reader) → Left s → bad_state s ≡ false
unfolding reader_layout
left_passes s (by_open o a e) = let h = open_handed o (accepted_failed (open_tests o) a) in rw e (after_open_passes o.layout h.layout h.siting)
left_passes s (by_seek k l a e) = let h = seek_handed k (accepted_failed (seek_tests k) a) in rw e (after_seek_passes k.reader k.y h.state h.inside)
left_passes s (by_row c l a e) = let h = row_handed c (accepted_failed (row_tests c) a) in rw e (after_row_passes c.reader c.y h.state h.inside)

-- ---- what passes is left: planes, scratch and outputs that are long enough for a layout

abbrev blank : Layout → ℕ → ℕ → Plane
blank l w h = record { bytes = replicate ((h - 1) * (w * l.sample_bytes) + w * l.sample_bytes) 0; stride = w * l.sample_bytes }

abbrev blanks : Layout → Planes
blanks l = record { y = blank l l.w l.h; cb = blank l l.cw l.ch; cr = blank l l.cw l.ch }

blank_long : (l : Layout) (w h : ℕ) → short_plane l w h (blank l w h) ≡ false
unfolding short_plane bad_plane
blank_long l w h =
    let r = w * l.sample_bytes in
    rw (le-ltb r r (le_refl r), length-replicate {A = ℕ} ((h - 1) * r + r) 0, le-ltb ((h - 1) * r + r) ((h - 1) * r + r) (le_refl _)) refl

blanks_long : (l : Layout) → bad_planes l (blanks l) ≡ false
unfolding bad_planes
blanks_long l = rw (blank_long l l.w l.h, blank_long l l.cw l.ch) refl

-- their samples are 0, which no maxval is below
blank_byte : (n i : ℕ) → ◌≡◌ {A = ℕ} (get_or (replicate n 0) i 0) 0
blank_byte zero i = refl
blank_byte (suc n) zero = refl
blank_byte (suc n) (suc i) = blank_byte n i

blank_sample : (bytes n at : ℕ) → sample_of bytes (replicate n 0) at ≡ 0
unfolding sample_of
blank_sample bytes n at = rw (blank_byte n at, blank_byte n (at + 1)) (go (eqb bytes 1))
  where
    go : (t : Bool) → ◌≡◌ {A = ℕ} (cond t 0 0) 0
    go true = refl
    go false = refl

blank_within : (l : Layout) (w h : ℕ) → above l w h (blank l w h) ≡ false
unfolding above sample_at
blank_within l w h = none_any h _ (λ y _. none_any w _ (λ x _. le-ltb l.maxval _ (rw blank_sample zero-le)))

blanks_within : (l : Layout) → above_any l (blanks l) ≡ false
unfolding above_any
blanks_within l = rw (blank_within l l.w l.h, blank_within l l.cw l.ch) refl

abbrev open_of : Layout → Reader → OpenCall
open_of l s = record { layout = l; planes = blanks l; scratch = replicate (scratch_need l) nan; reader = s }

abbrev row_of : Layout → ℕ → RowCall
row_of l y = record { y = y; planes = blanks l; reader = after_open l; scratch = replicate (scratch_need l) nan; out_cb = replicate l.w nan; out_cr = replicate l.w nan }

module _ (t : Reader) (a : accepted (first (layout_tests false (reader_layout t))) ≡ true) where
  abbrev l : Layout
  l = reader_layout t

  centred : bad_siting l ≡ false
  unfolding reader_layout bad_siting
  centred = refl

  after_open_state : bad_state (after_open l) ≡ false
  after_open_state = after_open_passes l (accepted_failed (layout_tests false l) (accepted_is (first (layout_tests false l)) a)) centred

  scratch_long : ltb (length (replicate (scratch_need l) nan)) (scratch_need l) ≡ false
  scratch_long = rw length-replicate (le-ltb (scratch_need l) (scratch_need l) (le_refl (scratch_need l)))

  out_long : ltb (length (replicate l.w nan)) l.w ≡ false
  out_long = rw length-replicate (le-ltb l.w l.w (le_refl l.w))

  open_accepted : (s : Reader) → first (open_tests (open_of l s)) ≡ Ok tt
  unfolding open_tests
  open_accepted s = passed_early (layout_tests false l) _ a ∙ failed_accepted _ (centred, (blanks_long l, (blanks_within l, (scratch_long, tt))))

  after_open_left : (s : Reader) → Left (after_open l)
  after_open_left s = by_open (open_of l s) (open_accepted s) refl

  module _ (y : ℕ) (Y : y < l.h) where
    seek_accepted : first (seek_tests (record { y = y; reader = after_open l })) ≡ Ok tt
    unfolding seek_tests after_open reader_at geometry_of reader_layout
    seek_accepted = failed_accepted (seek_tests (record { y = y; reader = after_open l })) (after_open_state, (lt-leb l.h y Y, tt))

    row_accepted : first (row_tests (row_of l y)) ≡ Ok tt
    unfolding row_tests after_open reader_at geometry_of reader_layout
    row_accepted = failed_accepted (row_tests (row_of l y)) (after_open_state, (blanks_long l, (scratch_long, (rw out_long refl, (lt-leb l.h y Y, (le-ltb y 0 zero-le, tt))))))

-- what passes is left
pub passes_left : (s : Reader) → Typed s → bad_state s ≡ false → Left s
unfolding reader_layout
passes_left s t e =
    let l = reader_layout s in
    let p = state_tests s e in
    elim (left_states s t e) [
      | inl q ↦ by_seek (record { y = s.place; reader = after_open l }) (after_open_left s p.0 s) (seek_accepted s p.0 s.place p.2) q
      | inr q ↦ by_row (row_of l s.place) (after_open_left s p.0 s) (row_accepted s p.0 s.place p.2) q
    ]
