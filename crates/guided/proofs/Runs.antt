-- Over a list of events that meets the premise: the state and scratch that accepted calls leave stand for a window of the current picture, and a row given is its guided row.
-- An induction over the list with the invariant `InStep`: open begins it, seek keeps it with nothing held, and a row call keeps it by
-- FinishedRows. The hard step is to put the current picture in the place of the planes and the state that a row call was handed, which the
-- premise allows.
use Rattle.std.proofs.Common.{◌≡◌, refl, sym, ap, ◌∙◌, subst, inl, inr, Bool, true, false, cond, List, [], ◌∷◌, ℕ, ◌-◌, ◌≤◌, ◌<◌, T, length, take, Float}
use Rattle.laws.specs.Refusals.{accepted}
use Rattle.laws.specs.Lists.{put}
use Rattle.laws.proofs.Lists.{take_put, table_same}
use Rattle.image.specs.declared.layout.Layout.{Layout}
use Rattle.image.specs.Inner.Tests.{Sound}
use Rattle.image.proofs.Layouts.{sound}
use Rattle.image.specs.Samples.{sample_at}
use Rattle.image.specs.declared.chroma.Chroma.{Chroma}
use Rattle.image.specs.declared.chroma.Chroma.TheVariants.{Cb, Cr}
use Rattle.image.specs.Picture.{chroma_plane, picture_of, bad_planes, Planes}
use Rattle.image.proofs.Pictures.{inside_is, padding_unseen}
use Rattle.image.specs.Scratch.{cell_at}
use Rattle.guided.specs.declared.state.Reader.{Reader}
use Rattle.guided.specs.Guided.{guided_sample, guided_row}
use Rattle.guided.specs.Scratch.{finished_at, row_steps}
use Rattle.guided.specs.Calls.{reader_layout, geometry_of, top_of, fresh_h, fresh_f, done_h, done_f, reader_at, after_open, after_seek, after_row, bad_state, OpenCall, SeekCall, RowCall, open_tests, seek_tests, row_tests, row_scratch, row_out, Bytes}
use Rattle.guided.specs.Events.{RowEvent, Event, Opened, Sought, Rowed, RanRow, Ran, AllRan, done, Since, Course, Start, After, picture_by, moved, next, Shows, Handed, Premise, Gives, here, later, out_of, given}
use Rattle.guided.proofs.Held.{Has}
use Rattle.guided.proofs.Window.{Win, Counters, win_fresh}
use Rattle.guided.proofs.FinishedRows.{row_window, row_finished}
use Rattle.guided.proofs.Acceptance.{all_failed, fine, OpenHanded, open_handed, SeekHanded, seek_handed, RowHanded, row_handed}
use Rattle.guided.proofs.LeftStates.{plain_back, after_open_passes, after_seek_passes, after_row_passes}

-- planes that hold a picture's samples make that picture
pub shows_is : (o : OpenCall) (ps : Planes) → Shows (picture_by o) ps → picture_of o.layout ps ≡ picture_by o
unfolding picture_of
shows_is o ps v =
    let l = o.layout in
    let a = padding_unseen l ps o.planes (record {
      luma = λ x y X Y. v.luma x y X Y ∙ inside_is l.w l.h (sample_at l.sample_bytes o.planes.y) x y X Y;
      chroma = λ k x y X Y. v.chroma k x y X Y ∙ inside_is l.cw l.ch (sample_at l.sample_bytes (chroma_plane o.planes k)) x y X Y;
    }) in
    λ t. record { layout = l; luma = λ y x. a.luma x y t; chroma = λ k y x. a.chroma k x y t }

-- the planes of the open itself do
pub shows_own : (o : OpenCall) → Shows (picture_by o) o.planes
unfolding picture_of
shows_own o =
    let l = o.layout in
    record {
      luma = λ x y X Y. sym (inside_is l.w l.h (sample_at l.sample_bytes o.planes.y) x y X Y);
      chroma = λ k x y X Y. sym (inside_is l.cw l.ch (sample_at l.sample_bytes (chroma_plane o.planes k)) x y X Y);
    }

-- ---- what accepted calls leave

abbrev window : OpenCall → Reader → List Float → Type 0
window o s xs = Win (picture_by o) (Cb ∷ Cr ∷ []) (top_of o.layout s.place) s.h_next s.f_next xs

-- a state that passes, of the current picture's layout, and the window that its counters tell
pub record InStep (s : Since) : Type 0 where
  pub state : bad_state s.reader ≡ false
  pub layout : reader_layout s.reader ≡ s.by.layout
  pub planes : bad_planes s.by.layout s.by.planes ≡ false
  pub bytes : Bytes s.by
  pub win : window s.by s.reader s.scratch

-- before the first accepted open nothing is known
abbrev pub Good : Course → Type 0
Good Start = Unit {0}
Good (After s) = InStep s

has : (k : Chroma) → Has k (Cb ∷ Cr ∷ [])
has Cb = inl refl
has Cr = inr (inl refl)

-- the layout of the current picture is sound
pub sound_by : (s : Since) → InStep s → Sound s.by.layout
sound_by s ok = subst Sound ok.layout (fine s.reader ok.state).sound

-- ---- an accepted row call that gets what the accepted calls left

module _ (s : Since) (ok : InStep s) (c : RowCall) (hd : RowHanded c) (v : Shows (picture_by s.by) c.planes) (er : c.reader ≡ s.reader) (es : c.scratch ≡ s.scratch) where
  lay : reader_layout c.reader ≡ s.by.layout
  lay = ap reader_layout er ∙ ok.layout

  within : c.y < s.by.layout.h
  within = subst (λ (l : Layout). c.y < l.h) lay hd.inside

  -- scratch afterwards, over the current picture
  abbrev stepped : List Float
  stepped = row_steps (picture_by s.by) (Cb ∷ Cr ∷ []) s.reader.h_next s.reader.f_next (done_f s.by.layout c.y - s.reader.f_next) c.y s.scratch

  scratch_is : row_scratch c ≡ stepped
  unfolding row_scratch
  scratch_is = rw (er, es, ok.layout, shows_is s.by c.planes v) refl

  place : s.reader.place < s.by.layout.h
  place = subst (λ (l : Layout). s.reader.place < l.h) ok.layout (fine s.reader ok.state).place

  counters : Counters s.by.layout s.reader.place s.reader.h_next s.reader.f_next
  counters = subst (λ (l : Layout). Counters l s.reader.place s.reader.h_next s.reader.f_next) ok.layout (fine s.reader ok.state).counters

  onward : s.reader.place ≤ c.y
  onward = subst (λ (z : Reader). z.place ≤ c.y) er hd.onward

  stepped_window : Win (picture_by s.by) (Cb ∷ Cr ∷ []) (top_of s.by.layout c.y) (done_h s.by.layout c.y) (done_f s.by.layout c.y) stepped
  unfolding picture_of
  stepped_window = row_window (picture_by s.by) (Cb ∷ Cr ∷ []) (sound_by s ok) s.reader.place s.reader.h_next s.reader.f_next place counters c.y within onward s.scratch ok.win

  finished : (k : Chroma) (x : ℕ) → x < s.by.layout.w → cell_at stepped (finished_at s.by.layout k) x ≡ guided_sample (picture_by s.by) k c.y x
  unfolding picture_of
  finished k = row_finished (picture_by s.by) (Cb ∷ Cr ∷ []) (sound_by s ok) s.reader.place s.reader.h_next s.reader.f_next place counters c.y within onward s.scratch ok.win k (has k)

  -- leaves the window at its row
  row_ok : InStep (record { by = s.by; reader = after_row c.reader c.y; scratch = row_scratch c })
  unfolding after_row reader_at reader_layout
  row_ok = record {
    state = after_row_passes c.reader c.y hd.state hd.inside;
    layout = lay;
    planes = ok.planes;
    bytes = ok.bytes;
    win =
        subst (λ (l : Layout). Win (picture_by s.by) (Cb ∷ Cr ∷ []) (top_of s.by.layout c.y) (done_h l c.y) (done_f l c.y) (row_scratch c)) (sym lay)
        (subst (λ (xs : List Float). Win (picture_by s.by) (Cb ∷ Cr ∷ []) (top_of s.by.layout c.y) (done_h s.by.layout c.y) (done_f s.by.layout c.y) xs) (sym scratch_is) stepped_window);
  }

  out_is : (k : Chroma) (out : List Float) → row_out c k out ≡ put out 0 s.by.layout.w (cell_at stepped (finished_at s.by.layout k))
  unfolding row_out reader_layout
  out_is k out = ap (λ (xs : List Float). put out 0 c.reader.geometry.w (cell_at xs (finished_at (reader_layout c.reader) k))) scratch_is ∙ ap (λ (l : Layout). put out 0 l.w (cell_at stepped (finished_at l k))) lay

  -- and gives the guided row
  row_given : (k : Chroma) (out : List Float) → (reader_layout c.reader).w ≤ length out → take s.by.layout.w (row_out c k out) ≡ guided_row (picture_by s.by) k c.y
  unfolding guided_row picture_of
  row_given k out h =
      let w = s.by.layout.w in
      ap (take w) (out_is k out) ∙ take_put out w (cell_at stepped (finished_at s.by.layout k)) (subst (λ (l : Layout). l.w ≤ length out) lay h)
      ∙ table_same w (cell_at stepped (finished_at s.by.layout k)) (guided_sample (picture_by s.by) k c.y) (finished k)

-- ---- one event

pick : {A : Type 0} (b : Bool) (x y : A) → T b → cond b x y ≡ x
pick true x y t = refl
pick false x y t = absurd t

open_ok : (o : OpenCall) (b : Bytes o) → OpenHanded o → InStep (record { by = o; reader = after_open o.layout; scratch = o.scratch })
unfolding after_open reader_at reader_layout geometry_of picture_of
open_ok o b h = record {
  state = after_open_passes o.layout h.layout h.siting;
  layout = plain_back o.layout h.layout h.siting;
  planes = h.planes;
  bytes = b;
  win = win_fresh (picture_by o) (Cb ∷ Cr ∷ []) (top_of o.layout 0) o.scratch (h.room, (sound false o.layout h.layout).cw_most);
}

seek_ok : (s : Since) → InStep s → (k : SeekCall) → SeekHanded k → k.reader ≡ s.reader → InStep (record { by = s.by; reader = after_seek k.reader k.y; scratch = s.scratch })
unfolding after_seek reader_at reader_layout
seek_ok s ok k h e = record {
  state = after_seek_passes k.reader k.y h.state h.inside;
  layout = ap reader_layout e ∙ ok.layout;
  planes = ok.planes;
  bytes = ok.bytes;
  win =
      subst (λ (l : Layout). Win (picture_by s.by) (Cb ∷ Cr ∷ []) (top_of s.by.layout k.y) (fresh_h l k.y) (fresh_f l k.y) s.scratch) (sym (ap reader_layout e ∙ ok.layout))
      (win_fresh (picture_by s.by) (Cb ∷ Cr ∷ []) (top_of s.by.layout k.y) s.scratch ok.win.room);
}

-- an accepted event keeps what is known
moved_ok : (t : Course) (e : Event) → Ran e → T (done e) → Good t → Handed t e → Good (moved t e)
unfolding Ran RanRow done moved Handed
moved_ok t (Opened o r) h a g d =
    subst (λ (z : Reader). InStep (record { by = o; reader = z; scratch = o.scratch })) (sym (h.leaves ∙ pick (accepted r.answer) (after_open o.layout) o.reader a))
    (open_ok o h.bytes (open_handed o (all_failed (open_tests o) r.answer h.answers a)))
moved_ok Start (Sought k r) h a g d = tt
moved_ok Start (Rowed e) h a g d = tt
moved_ok (After s) (Sought k r) h a g d =
    subst (λ (z : Reader). InStep (record { by = s.by; reader = z; scratch = s.scratch })) (sym (h.leaves ∙ pick (accepted r.answer) (after_seek k.reader k.y) k.reader a))
    (seek_ok s g k (seek_handed k (all_failed (seek_tests k) r.answer h.answers a)) d)
moved_ok (After s) (Rowed e) h a g d =
    let c = e.call in
    let r = e.reply in
    let er : r.reader ≡ after_row c.reader c.y = (h a).leaves ∙ pick (accepted r.answer) (after_row c.reader c.y) c.reader a in
    let es : e.scratch ≡ row_scratch c = (h a).scratches ∙ pick (accepted r.answer) (row_scratch c) c.scratch a in
    rw (er, es) (row_ok s g c (row_handed c (all_failed (row_tests c) r.answer (h a).answers a)) d.0 d.1 d.2)

-- and so does every event
pub next_ok : (t : Course) (e : Event) → Ran e → Good t → (T (done e) → Handed t e) → Good (next t e)
unfolding next
next_ok t e h g d = go (done e) (λ a. moved_ok t e h a g (d a))
  where
    go : (b : Bool) → (T b → Good (moved t e)) → Good (cond b (moved t e) t)
    go true m = m tt
    go false m = g

-- ---- a row given

-- what is known of a row given
pub record Gave (o : OpenCall) (e : RowEvent) : Type 0 where
  pub sound : Sound o.layout
  pub inside : e.call.y < o.layout.h
  pub bytes : Bytes o
  pub layout : reader_layout e.call.reader ≡ o.layout
  pub shows : Shows (picture_by o) e.call.planes
  pub is : (k : Chroma) → given o e k ≡ guided_row (picture_by o) k e.call.y

-- the output that a call is lent for component k, and what is left there
abbrev lent : RowCall → Chroma → List Float
lent c Cb = c.out_cb
lent c Cr = c.out_cr

lent_room : (c : RowCall) → RowHanded c → (k : Chroma) → (reader_layout c.reader).w ≤ length (lent c k)
lent_room c h Cb = h.cb
lent_room c h Cr = h.cr

out_left : (e : RowEvent) → Ran (Rowed e) → T (done (Rowed e)) → (k : Chroma) → out_of e k ≡ row_out e.call k (lent e.call k)
unfolding Ran RanRow done out_of
out_left e h a Cb = (h a).cbs ∙ pick (accepted e.reply.answer) (row_out e.call Cb e.call.out_cb) e.call.out_cb a
out_left e h a Cr = (h a).crs ∙ pick (accepted e.reply.answer) (row_out e.call Cr e.call.out_cr) e.call.out_cr a

handed_row : (e : RowEvent) → Ran (Rowed e) → T (done (Rowed e)) → RowHanded e.call
unfolding Ran RanRow done
handed_row e h a = row_handed e.call (all_failed (row_tests e.call) e.reply.answer (h a).answers a)

gave_here : (s : Since) (e : RowEvent) → Ran (Rowed e) → T (done (Rowed e)) → InStep s → Handed (After s) (Rowed e) → Gave s.by e
unfolding Handed given
gave_here s e h a ok d =
    let c = e.call in
    let hd = handed_row e h a in
    record {
      sound = sound_by s ok;
      inside = within s ok c hd d.0 d.1 d.2;
      bytes = ok.bytes;
      layout = lay s ok c hd d.0 d.1 d.2;
      shows = d.0;
      is = λ k. ap (take s.by.layout.w) (out_left e h a k) ∙ row_given s ok c hd d.0 d.1 d.2 k (lent c k) (lent_room c hd k);
    }

-- of every row given over a list
pub gave : (o : OpenCall) (e : RowEvent) (t : Course) (es : List Event) → AllRan es → Premise t es → Good t → Gives o e t es → Gave o e
unfolding AllRan Premise
gave o e t es h p g (here {s} a q) = subst (λ (z : OpenCall). Gave z e) q (gave_here s e h.0 a g (p.0 a))
gave o e t es h p g (later {d} {es = ds} x) = gave o e (next t d) ds h.1 p.1 (next_ok t d h.0 g p.0) x

-- ---- the course after a list

-- what the accepted calls of the list made of it
unfoldable pub after : Course → List Event → Course
after t [] = t
after t (e ∷ es) = after (next t e) es

-- what is known holds after every list
pub after_ok : (t : Course) (es : List Event) → AllRan es → Premise t es → Good t → Good (after t es)
unfolding AllRan Premise after
after_ok t [] h p g = g
after_ok t (e ∷ es) h p g = after_ok (next t e) es h.1 p.1 (next_ok t e h.0 g p.0)
