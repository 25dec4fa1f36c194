-- A list that meets the premise, with refused calls among accepted ones, a refused blend where a row call would be accepted, and a second
-- picture, in studio range, over the first one's scratch; and a list of its own with that picture in full range, whose row is the same.
-- Each answer is computed from its tests; what a call leaves passes by LeftStates. The long computations are the guided rows of both pictures,
-- whose numbers come from the original; their slopes are computed first, since each sample takes its slope several times.
use Rattle.std.proofs.Common.{◌≡◌, refl, ◌∙◌, Bool, true, false, cond, ◌&&◌, List, [], ◌∷◌, ℕ, zero, suc, ◌<◌, T, ltb, ltb→lt, lit<, length, get_or, replicate, Float, Ok, Err}
use lib.Ieee.{nan, binary32, add, sub, sum, neg, mul, div, round, size, span, climb, units, odd, lt, of_int, of_bits, of_fields}
use lib.Count.{count_trailing_zeros}
use Rattle.laws.specs.Axes.{plain}
use Rattle.laws.specs.Floats.{f32}
use Rattle.laws.specs.Lists.{table}
use Rattle.laws.specs.Sums.{sum_to}
use Rattle.laws.specs.Refusals.{first, accepted}
use Rattle.laws.proofs.Refusals.{Failed, failed_accepted}
use Rattle.image.specs.declared.layout.Layout.{Layout}
use Rattle.image.specs.declared.layout.Range.TheVariants.{Full, Studio}
use Rattle.image.specs.Tests.{bad_size, bad_ratio, bad_samples, bad_range, div_ceil, bad_chroma, bad_siting, layout_tests, bad_plane, tests_for}
use Rattle.image.specs.Samples.{sample_of, sample_at}
use Rattle.image.specs.declared.chroma.Chroma.{Chroma}
use Rattle.image.specs.declared.chroma.Chroma.TheVariants.{Cb, Cr}
use Rattle.image.specs.Picture.{chroma_plane, inside, picture_of, ranged, SameButRange, short_plane, bad_planes, Planes}
use Rattle.image.specs.Limits.{any_of, above, above_any}
use Rattle.taps.specs.Taps.{spot_at, sited_at, spot_of, tap_by, phase_of}
use Rattle.image.specs.Scratch.{scratch_need}
use Rattle.guided.specs.declared.state.Reader.{Reader}
use Rattle.guided.specs.Guided.{three, luma_of, extreme_of, cell_luma, cell_of, across_val, extreme, epsilon, mean, slope_of, down_to, across_to, detail_of, value_of, slope, guided_sample, guided_row}
use Rattle.guided.specs.Calls.{geometry_of, reader_layout, reader_at, after_open, after_seek, after_row, bad_state, OpenCall, SeekCall, RowCall, open_tests, seek_tests, row_tests, row_scratch, row_out, Bytes}
use Rattle.guided.specs.Events.{RowEvent, Event, Opened, Sought, Rowed, RanRow, Ran, AllRan, done, Start, picture_by, moved, next, Handed, Premise, Gives, here, later, given}
use Rattle.guided.proofs.FinishedRows.{length_row}
use Rattle.guided.proofs.LeftStates.{after_open_passes, after_seek_passes, after_row_passes}
use Rattle.guided.proofs.Runs.{shows_own}
use Rattle.guided.proofs.Demand.{demand_3}
use Rattle.laws.specs.declared.refusal.Refusal.TheVariants.{BadState, BadSize, Unlike}

-- ---- what the code gives, by its contracts

abbrev pub open_event : OpenCall → Event
open_event o = Opened o (record { answer = first (open_tests o); reader = cond (accepted (first (open_tests o))) (after_open o.layout) o.reader })

abbrev pub seek_event : SeekCall → Event
seek_event k = Sought k (record { answer = first (seek_tests k); reader = cond (accepted (first (seek_tests k))) (after_seek k.reader k.y) k.reader })

abbrev row_event : RowCall → RowEvent
row_event c =
    let t = accepted (first (row_tests c)) in
    record {
      call = c;
      reply = record { answer = first (row_tests c); reader = cond t (after_row c.reader c.y) c.reader };
      scratch = cond t (row_scratch c) c.scratch;
      out_cb = cond t (row_out c Cb c.out_cb) c.out_cb;
      out_cr = cond t (row_out c Cr c.out_cr) c.out_cr;
    }

-- ---- the calls

abbrev pub junk : Reader
junk = record { geometry = record { w = 9; h = 9; rh = 0; rv = 7; cw = 1; ch = 1; phases = []; range = Full }; sample_bytes = 3; maxval = 0; place = 7; h_next = 7; f_next = 7 }

-- 2 by 2, ratio 2 across and 1 down, luma at a stride of 3 and Cr at one of 2
abbrev pub layout_a : Layout
layout_a = record { w = 2; h = 2; rh = 2; rv = 1; cw = 1; ch = 2; across = plain; down = plain; sample_bytes = 1; maxval = 255; range = Full }

abbrev pub planes_a : Planes
planes_a = record { y = record { bytes = 10 ∷ 20 ∷ 99 ∷ 30 ∷ 40 ∷ []; stride = 3 }; cb = record { bytes = 100 ∷ 60 ∷ []; stride = 1 }; cr = record { bytes = 200 ∷ 9 ∷ 77 ∷ []; stride = 2 } }

-- 1 by 1, in studio range
abbrev layout_b : Layout
layout_b = record { w = 1; h = 1; rh = 1; rv = 1; cw = 1; ch = 1; across = plain; down = plain; sample_bytes = 1; maxval = 255; range = Studio }

abbrev planes_b : Planes
planes_b = record { y = record { bytes = 230 ∷ []; stride = 1 }; cb = record { bytes = 3 ∷ []; stride = 1 }; cr = record { bytes = 128 ∷ []; stride = 1 } }

abbrev pub open_a : OpenCall
open_a = record { layout = layout_a; planes = planes_a; scratch = replicate 80 nan; reader = junk }

-- refused as 2, over any state and scratch
abbrev bad_open : OpenCall
bad_open = record { layout = record { w = 0; h = 2; rh = 2; rv = 2; cw = 1; ch = 1; across = plain; down = plain; sample_bytes = 1; maxval = 255; range = Full }; planes = planes_b; scratch = []; reader = junk }

-- refused as 1
abbrev bad_row : RowCall
bad_row = record { y = 0; planes = planes_b; reader = junk; scratch = []; out_cb = []; out_cr = [] }

abbrev row0 : RowCall
row0 = record { y = 0; planes = planes_a; reader = after_open layout_a; scratch = replicate 80 nan; out_cb = nan ∷ nan ∷ nan ∷ []; out_cr = nan ∷ nan ∷ [] }

-- a blend that is refused as 22, where row 0 given again would be accepted
abbrev refused_blend : RowEvent
refused_blend = record {
  call = record { y = 0; planes = planes_a; reader = after_row (after_open layout_a) 0; scratch = row_scratch row0; out_cb = nan ∷ nan ∷ []; out_cr = nan ∷ nan ∷ [] };
  reply = record { answer = Err Unlike; reader = after_row (after_open layout_a) 0 };
  scratch = row_scratch row0;
  out_cb = nan ∷ nan ∷ [];
  out_cr = nan ∷ nan ∷ [];
}

abbrev seek1 : SeekCall
seek1 = record { y = 1; reader = after_row (after_open layout_a) 0 }

abbrev row1 : RowCall
row1 = record { y = 1; planes = planes_a; reader = after_seek (after_row (after_open layout_a) 0) 1; scratch = row_scratch row0; out_cb = nan ∷ nan ∷ []; out_cr = nan ∷ nan ∷ [] }

abbrev open_b : OpenCall
open_b = record { layout = layout_b; planes = planes_b; scratch = row_scratch row1; reader = after_row (after_seek (after_row (after_open layout_a) 0) 1) 1 }

abbrev row2 : RowCall
row2 = record { y = 0; planes = planes_b; reader = after_open layout_b; scratch = row_scratch row1; out_cb = nan ∷ []; out_cr = nan ∷ [] }

abbrev events : List Event
events = open_event open_a ∷ Rowed (row_event bad_row) ∷ open_event bad_open ∷ Rowed (row_event row0) ∷ Rowed refused_blend ∷ seek_event seek1 ∷ Rowed (row_event row1) ∷ open_event open_b ∷ Rowed (row_event row2) ∷ []

-- ---- their answers

pub length_scratch : (c : RowCall) → length (row_scratch c) ≡ length c.scratch
unfolding row_scratch
length_scratch c = length_row _ _ _ _ _ _ c.scratch

pub open_a_answer : first (open_tests open_a) ≡ Ok tt
unfolding open_tests first tests_for bad_size bad_ratio bad_samples bad_range div_ceil bad_chroma bad_siting bad_plane short_plane bad_planes sample_of sample_at any_of above above_any scratch_need
open_a_answer = refl

bad_open_answer : first (open_tests bad_open) ≡ Err BadSize
unfolding open_tests first tests_for bad_size
bad_open_answer = refl

bad_row_answer : first (row_tests bad_row) ≡ Err BadState
unfolding row_tests first bad_state reader_layout tests_for bad_size bad_ratio bad_samples bad_range
bad_row_answer = refl

pub layout_a_sound : Failed (layout_tests false layout_a)
unfolding tests_for bad_size bad_ratio bad_samples bad_range div_ceil bad_chroma
layout_a_sound = (refl, (refl, (refl, (refl, (refl, tt)))))

layout_b_sound : Failed (layout_tests false layout_b)
unfolding tests_for bad_size bad_ratio bad_samples bad_range div_ceil bad_chroma
layout_b_sound = (refl, (refl, (refl, (refl, (refl, tt)))))

pub state0 : bad_state (after_open layout_a) ≡ false
unfolding bad_siting
state0 = after_open_passes layout_a layout_a_sound refl

state1 : bad_state (after_row (after_open layout_a) 0) ≡ false
unfolding after_open reader_at geometry_of
state1 = after_row_passes (after_open layout_a) 0 state0 (lit< tt)

state2 : bad_state (after_seek (after_row (after_open layout_a) 0) 1) ≡ false
unfolding after_open after_row reader_at geometry_of
state2 = after_seek_passes (after_row (after_open layout_a) 0) 1 state1 (lit< tt)

scratch0 : length (row_scratch row0) ≡ 80
scratch0 = length_scratch row0

scratch1 : length (row_scratch row1) ≡ 80
scratch1 = length_scratch row1 ∙ scratch0

row0_answer : first (row_tests row0) ≡ Ok tt
unfolding row_tests after_open reader_at geometry_of reader_layout bad_plane short_plane bad_planes scratch_need
row0_answer = failed_accepted (row_tests row0) (state0, (refl, (refl, (refl, (refl, (refl, tt))))))

seek1_answer : first (seek_tests seek1) ≡ Ok tt
unfolding seek_tests after_open after_row reader_at geometry_of
seek1_answer = failed_accepted (seek_tests seek1) (state1, (refl, tt))

row1_answer : first (row_tests row1) ≡ Ok tt
unfolding row_tests after_open after_row after_seek reader_at geometry_of reader_layout bad_plane short_plane bad_planes scratch_need
row1_answer = failed_accepted (row_tests row1) (state2, (refl, (rw scratch0 refl, (refl, (refl, (refl, tt))))))

open_b_answer : first (open_tests open_b) ≡ Ok tt
unfolding open_tests tests_for bad_size bad_ratio bad_samples bad_range div_ceil bad_chroma bad_siting bad_plane short_plane bad_planes sample_of sample_at any_of above above_any scratch_need
open_b_answer = failed_accepted (open_tests open_b) (refl, (refl, (refl, (refl, (refl, (refl, (refl, (refl, (rw scratch1 refl, tt)))))))))

row2_answer : first (row_tests row2) ≡ Ok tt
unfolding row_tests after_open reader_at geometry_of reader_layout bad_plane short_plane bad_planes scratch_need bad_siting
row2_answer = failed_accepted (row_tests row2) (after_open_passes layout_b layout_b_sound refl, (refl, (rw scratch1 refl, (refl, (refl, (refl, tt))))))

-- ---- the list meets the premise

abbrev pub all_bytes : List ℕ → Bool
all_bytes [] = true
all_bytes (x ∷ l) = ltb x 256 && all_bytes l

pub bytes_are : (l : List ℕ) → T (all_bytes l) → (i : ℕ) → get_or l i 0 < 256
bytes_are [] t i = lit< tt
bytes_are (x ∷ l) t i = go (ltb x 256) (ltb→lt x 256) (bytes_are l) t i
  where
    go : (b : Bool) → (T b → x < 256) → (T (all_bytes l) → (i : ℕ) → get_or l i 0 < 256) → T (b && all_bytes l) → (i : ℕ) → get_or (x ∷ l) i 0 < 256
    go true f g t zero = f tt
    go true f g t (suc i) = g t i
    go false f g t i = absurd t

pub bytes_a : Bytes open_a
unfolding Bytes
bytes_a Cb = bytes_are (chroma_plane planes_a Cb).bytes tt
bytes_a Cr = bytes_are (chroma_plane planes_a Cr).bytes tt

bytes_b : (o : OpenCall) → o.planes ≡ planes_b → Bytes o
unfolding Bytes
bytes_b o e Cb = rw e (bytes_are (chroma_plane planes_b Cb).bytes tt)
bytes_b o e Cr = rw e (bytes_are (chroma_plane planes_b Cr).bytes tt)

pub open_ran : (o : OpenCall) → Bytes o → Ran (open_event o)
unfolding Ran
open_ran o b = record { answers = refl; leaves = refl; bytes = b }

pub seek_ran : (k : SeekCall) → Ran (seek_event k)
unfolding Ran
seek_ran k = record { answers = refl; leaves = refl }

row_ran : (c : RowCall) → Ran (Rowed (row_event c))
unfolding Ran RanRow
row_ran c = λ _. record { answers = refl; leaves = refl; scratches = refl; cbs = refl; crs = refl }

blend_ran : Ran (Rowed refused_blend)
unfolding Ran RanRow
blend_ran = λ t. absurd t

all_ran : AllRan events
unfolding AllRan
all_ran = (open_ran open_a bytes_a, (row_ran bad_row, (open_ran bad_open (bytes_b bad_open refl), (row_ran row0, (blend_ran, (seek_ran seek1, (row_ran row1, (open_ran open_b (bytes_b open_b refl), (row_ran row2, tt)))))))))

premise : Premise Start events
unfolding Premise next moved Handed done
premise =
    rw (open_a_answer, bad_row_answer, bad_open_answer, row0_answer, seek1_answer, row1_answer, open_b_answer, row2_answer)
    ((λ _. tt), ((λ t. absurd t), ((λ t. absurd t), ((λ _. (shows_own open_a, refl, refl)), ((λ t. absurd t), ((λ _. refl), ((λ _. (shows_own open_a, refl, refl)), ((λ _. tt), ((λ _. (shows_own open_b, refl, refl)), tt)))))))))

-- each accepted row of it, with the open that is then current
gives_0 : Gives open_a (row_event row0) Start events
unfolding next moved done
gives_0 = rw (open_a_answer, bad_row_answer, bad_open_answer, row0_answer) (later (later (later (here tt refl))))

gives_1 : Gives open_a (row_event row1) Start events
unfolding next moved done
gives_1 = rw (open_a_answer, bad_row_answer, bad_open_answer, row0_answer, seek1_answer, row1_answer) (later (later (later (later (later (later (here tt refl)))))))

gives_2 : Gives open_b (row_event row2) Start events
unfolding next moved done
gives_2 =
    rw (open_a_answer, bad_row_answer, bad_open_answer, row0_answer, seek1_answer, row1_answer, open_b_answer, row2_answer)
    (later (later (later (later (later (later (later (later (here tt refl)))))))))

-- ---- and the rows given are the pictures', by their numbers

abbrev pub bits : ℕ → Float
bits n = of_bits binary32 n

-- the first picture's rows: Cb 100 and 91.525429, Cr 200 and 173.94067; below them Cb 68.474579 and 60, Cr 103.05933 and 77
abbrev pub cb0 : List Float
cb0 = bits 1120403456 ∷ bits 1119292677 ∷ []

abbrev pub cr0 : List Float
cr0 = bits 1128792064 ∷ bits 1127084240 ∷ []

abbrev pub cb1 : List Float
cb1 = bits 1116271356 ∷ bits 1114636288 ∷ []

abbrev pub cr1 : List Float
cr1 = bits 1120804449 ∷ bits 1117388800 ∷ []

-- the first picture's slopes, as f32: about −1.7 for Cb and −5.2 for Cr
pub slopes : (slope (picture_by open_a) Cb 0 0 ≡ bits 3218666231) × (slope (picture_by open_a) Cr 0 0 ≡ bits 3232155546) × (slope (picture_by open_a) Cb 1 0 ≡ bits 3218666245) × (slope (picture_by open_a) Cr 1 0 ≡ bits 3232155549)
unfolding slope slope_of mean epsilon across_val cell_of cell_luma luma_of three sum_to picture_of inside sample_at sample_of add sub mul div sum neg round size span climb units odd lt of_int count_trailing_zeros of_bits of_fields
slopes = (refl, refl, refl, refl)

pub computed_0 : (guided_row (picture_by open_a) Cb 0 ≡ cb0) × (guided_row (picture_by open_a) Cr 0 ≡ cr0)
unfolding guided_row table guided_sample value_of detail_of across_to down_to extreme extreme_of across_val cell_of cell_luma luma_of three sum_to phase_of tap_by spot_of sited_at spot_at picture_of inside sample_at sample_of add sub mul div sum neg round size span climb units odd lt of_int count_trailing_zeros of_bits of_fields
computed_0 = (rw slopes.0 refl, rw slopes.1 refl)

pub computed_1 : (guided_row (picture_by open_a) Cb 1 ≡ cb1) × (guided_row (picture_by open_a) Cr 1 ≡ cr1)
unfolding guided_row table guided_sample value_of detail_of across_to down_to extreme extreme_of across_val cell_of cell_luma luma_of three sum_to phase_of tap_by spot_of sited_at spot_at picture_of inside sample_at sample_of add sub mul div sum neg round size span climb units odd lt of_int count_trailing_zeros of_bits of_fields
computed_1 = (rw slopes.2 refl, rw slopes.3 refl)

computed_2 : (guided_row (picture_by open_b) Cb 0 ≡ f32 3 ∷ []) × (guided_row (picture_by open_b) Cr 0 ≡ f32 128 ∷ [])
unfolding guided_row table guided_sample value_of detail_of across_to down_to slope slope_of mean epsilon extreme extreme_of across_val cell_of cell_luma luma_of three sum_to phase_of tap_by spot_of sited_at spot_at picture_of inside sample_at sample_of add sub mul div sum neg round size span climb units odd lt of_int count_trailing_zeros of_bits of_fields
computed_2 = (refl, refl)

-- the rows that the list gives: row 0 and row 1 of the first picture, and row 0 of the second
pub worked_0 : (given open_a (row_event row0) Cb ≡ cb0) × (given open_a (row_event row0) Cr ≡ cr0)
worked_0 = let rows = demand_3.guided open_a (row_event row0) events (record { ran = all_ran; premise = premise; gives = gives_0 }) in (rows Cb ∙ computed_0.0, rows Cr ∙ computed_0.1)

pub worked_1 : (given open_a (row_event row1) Cb ≡ cb1) × (given open_a (row_event row1) Cr ≡ cr1)
worked_1 = let rows = demand_3.guided open_a (row_event row1) events (record { ran = all_ran; premise = premise; gives = gives_1 }) in (rows Cb ∙ computed_1.0, rows Cr ∙ computed_1.1)

pub worked_2 : (given open_b (row_event row2) Cb ≡ f32 3 ∷ []) × (given open_b (row_event row2) Cr ≡ f32 128 ∷ [])
worked_2 = let rows = demand_3.guided open_b (row_event row2) events (record { ran = all_ran; premise = premise; gives = gives_2 }) in (rows Cb ∙ computed_2.0, rows Cr ∙ computed_2.1)

-- ---- the second picture in full range, read by itself, gives the same row

abbrev layout_f : Layout
layout_f = record { w = 1; h = 1; rh = 1; rv = 1; cw = 1; ch = 1; across = plain; down = plain; sample_bytes = 1; maxval = 255; range = Full }

abbrev open_f : OpenCall
open_f = record { layout = layout_f; planes = planes_b; scratch = replicate 80 nan; reader = junk }

abbrev row_f : RowCall
row_f = record { y = 0; planes = planes_b; reader = after_open layout_f; scratch = replicate 80 nan; out_cb = nan ∷ []; out_cr = nan ∷ [] }

abbrev events_f : List Event
events_f = open_event open_f ∷ Rowed (row_event row_f) ∷ []

open_f_answer : first (open_tests open_f) ≡ Ok tt
unfolding open_tests first tests_for bad_size bad_ratio bad_samples bad_range div_ceil bad_chroma bad_siting bad_plane short_plane bad_planes sample_of sample_at any_of above above_any scratch_need
open_f_answer = refl

layout_f_sound : Failed (layout_tests false layout_f)
unfolding tests_for bad_size bad_ratio bad_samples bad_range div_ceil bad_chroma
layout_f_sound = (refl, (refl, (refl, (refl, (refl, tt)))))

row_f_answer : first (row_tests row_f) ≡ Ok tt
unfolding row_tests after_open reader_at geometry_of reader_layout bad_plane short_plane bad_planes scratch_need bad_siting
row_f_answer = failed_accepted (row_tests row_f) (after_open_passes layout_f layout_f_sound refl, (refl, (refl, (refl, (refl, (refl, tt))))))

ran_f : AllRan events_f
unfolding AllRan
ran_f = (open_ran open_f (bytes_b open_f refl), (row_ran row_f, tt))

premise_f : Premise Start events_f
unfolding Premise next moved Handed done
premise_f = rw (open_f_answer, row_f_answer) ((λ _. tt), ((λ _. (shows_own open_f, refl, refl)), tt))

gives_F : Gives open_f (row_event row_f) Start events_f
unfolding next moved done
gives_F = rw (open_f_answer, row_f_answer) (later (here tt refl))

pub worked_range : (k : Chroma) → get_or (given open_b (row_event row2) k) 0 (f32 0) ≡ get_or (given open_f (row_event row_f) k) 0 (f32 0)
unfolding picture_of SameButRange ranged
worked_range k =
    demand_3.local open_b open_f (row_event row2) (row_event row_f) events events_f (record { ran = all_ran; premise = premise; gives = gives_2 }) (record { ran = ran_f; premise = premise_f; gives = gives_F }) refl k 0 (lit< tt)
    (record { layout = refl; luma = λ x y X Y I J. refl; chroma = λ c x y X Y I J. refl })
