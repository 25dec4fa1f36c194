-- A pair of lists that meets the premises of `BlendClaims.rows`: two pictures of one geometry, jumps in both lists, an accepted blend of row 0,
-- one that is refused as 22 since its weight is 17, and an accepted blend of row 1, whose bytes are computed.
-- Every blend is written by its contract, so that it counts in both lists by `early_counts` and `late_counts`; what a call leaves passes by
-- guided's LeftStates.
use Rattle.std.proofs.Common.{◌≡◌, refl, ◌∙◌, Bool, false, cond, ◌||◌, List, [], ◌∷◌, ℕ, lit<, length, replicate, Float, Ok, Err}
use lib.Ieee.{nan}
use Rattle.laws.specs.Refusals.{first, accepted}
use Rattle.laws.proofs.Refusals.{failed_accepted, refused_here, passed_over}
use Rattle.image.specs.Tests.{bad_plane}
use Rattle.image.specs.Picture.{short_plane, bad_planes}
use Rattle.image.specs.Scratch.{scratch_need}
use Rattle.guided.specs.declared.state.Reader.{Reader}
use Rattle.guided.specs.Calls.{geometry_of, reader_layout, reader_at, after_open, after_seek, after_row, bad_state, SeekCall, seek_tests}
use Rattle.guided.specs.Events.{Event, Rowed, Ran, AllRan, done, Start, moved, next, Handed, Premise, Gives, here, later, Run}
use Rattle.guided.proofs.LeftStates.{after_seek_passes, after_row_passes}
use Rattle.guided.proofs.Runs.{shows_own}
use Rattle.guided.proofs.Worked.{open_event, seek_event, layout_a, planes_a, open_a, open_a_answer, bytes_a, open_ran, seek_ran, state0, length_scratch}
use Rattle.reconstruction.specs.Colour.{Colour}
use Rattle.reconstruction.specs.Fill.{pixel, pixels}
use Rattle.reconstruction.specs.Lists.{row_of, event_of, guided_colour}
use Rattle.reconstruction.specs.Reader.{Side, side_of, side_reader, side_scratch}
use Rattle.reconstruction.proofs.Laws.{planes_c, open_c, open_c_answer, bytes_c, early_row, late_row}
use Rattle.colorimetry.specs.Blends.{BlendReply, BlendCall, blend_call, same_range, same_geometry, unlike_of, blend_tests, blend_colour, BlendGiven}
use Rattle.colorimetry.specs.Mixes.{mix_of, mix_colour}
use Rattle.colorimetry.specs.BlendClaims.{early_event, late_event}
use Rattle.colorimetry.proofs.BlendClaims.{blend_claims}
use Rattle.laws.specs.declared.refusal.Refusal.TheVariants.{BadState, Unlike}

-- ---- what a blend gives, by its contract

abbrev took : BlendCall → Bool
took c = accepted (first (blend_tests c))

abbrev reply : BlendCall → BlendReply
reply c = record {
  answer = first (blend_tests c);
  early = cond (took c) (side_reader c.early c.y) c.early.reader;
  late = cond (took c) (side_reader c.late c.y) c.late.reader;
}

abbrev early_scratch : BlendCall → List Float
early_scratch c = cond (took c) (side_scratch c.early c.y) c.early.scratch

abbrev late_scratch : BlendCall → List Float
late_scratch c = cond (took c) (side_scratch c.late c.y) c.late.scratch

abbrev row : BlendCall → List ℕ
row c = cond (took c) (pixels c.out 0 3 (blend_colour c) c.early.reader.geometry.w) c.out

given : (c : BlendCall) → BlendGiven c (reply c) (early_scratch c) (late_scratch c) (row c)
given c = record { answers = refl; early_leaves = refl; late_leaves = refl; early_scratches = refl; late_scratches = refl; gives = refl }

abbrev early_blend : BlendCall → Event
early_blend c = Rowed (early_event c (reply c) (early_scratch c))

abbrev late_blend : BlendCall → Event
late_blend c = Rowed (late_event c (reply c) (late_scratch c))

early_ran : (c : BlendCall) → Ran (early_blend c)
unfolding Ran
early_ran c = blend_claims.early_counts c (reply c) (early_scratch c) (late_scratch c) (row c) (given c)

late_ran : (c : BlendCall) → Ran (late_blend c)
unfolding Ran
late_ran c = blend_claims.late_counts c (reply c) (early_scratch c) (late_scratch c) (row c) (given c)

-- ---- the calls

abbrev room : List ℕ
room = 9 ∷ 9 ∷ 9 ∷ 9 ∷ 9 ∷ 9 ∷ 9 ∷ []

-- the late reader jumps down and back before the first blend
abbrev late_down : SeekCall
late_down = record { y = 1; reader = after_open layout_a }

abbrev late_back : SeekCall
late_back = record { y = 0; reader = after_seek (after_open layout_a) 1 }

abbrev early0 : Side
early0 = side_of (after_open layout_a) planes_a (replicate 80 nan)

abbrev late0 : Side
late0 = side_of (after_seek (after_seek (after_open layout_a) 1) 0) planes_c (replicate 80 nan)

abbrev blend0 : BlendCall
blend0 = blend_call 0 4 early0 late0 room

-- what it leaves, handed to one that is refused
abbrev early1 : Side
early1 = side_of (after_row (after_open layout_a) 0) planes_a (side_scratch early0 0)

abbrev late1 : Side
late1 = side_of (after_row (after_seek (after_seek (after_open layout_a) 1) 0) 0) planes_c (side_scratch late0 0)

abbrev too_heavy : BlendCall
too_heavy = blend_call 1 17 early1 late1 room

-- the early reader jumps, the late one goes on
abbrev early_down : SeekCall
early_down = record { y = 1; reader = early1.reader }

abbrev early2 : Side
early2 = side_of (after_seek early1.reader 1) planes_a early1.scratch

abbrev blend1 : BlendCall
blend1 = blend_call 1 5 early2 late1 room

abbrev early_list : List Event
early_list = open_event open_a ∷ early_blend blend0 ∷ early_blend too_heavy ∷ seek_event early_down ∷ early_blend blend1 ∷ []

abbrev late_list : List Event
late_list = open_event open_c ∷ seek_event late_down ∷ seek_event late_back ∷ late_blend blend0 ∷ late_blend too_heavy ∷ late_blend blend1 ∷ []

-- ---- their answers

down_passes : bad_state (after_seek (after_open layout_a) 1) ≡ false
unfolding after_open reader_at geometry_of
down_passes = after_seek_passes (after_open layout_a) 1 state0 (lit< tt)

back_passes : bad_state (after_seek (after_seek (after_open layout_a) 1) 0) ≡ false
unfolding after_open after_seek reader_at geometry_of
back_passes = after_seek_passes (after_seek (after_open layout_a) 1) 0 down_passes (lit< tt)

early1_passes : bad_state early1.reader ≡ false
unfolding after_open reader_at geometry_of
early1_passes = after_row_passes (after_open layout_a) 0 state0 (lit< tt)

late1_passes : bad_state late1.reader ≡ false
unfolding after_open after_seek reader_at geometry_of
late1_passes = after_row_passes (after_seek (after_seek (after_open layout_a) 1) 0) 0 back_passes (lit< tt)

early2_passes : bad_state early2.reader ≡ false
unfolding after_open after_row reader_at geometry_of
early2_passes = after_seek_passes early1.reader 1 early1_passes (lit< tt)

both_pass : (r s : Reader) → bad_state r ≡ false → bad_state s ≡ false → (bad_state r || bad_state s) ≡ false
both_pass r s e f = rw (e, f) refl

early_long : length early1.scratch ≡ 80
unfolding row_of
early_long = length_scratch (row_of early0 0)

late_long : length late1.scratch ≡ 80
unfolding row_of
late_long = length_scratch (row_of late0 0)

late_down_answer : first (seek_tests late_down) ≡ Ok tt
unfolding seek_tests after_open reader_at geometry_of
late_down_answer = failed_accepted (seek_tests late_down) (state0, (refl, tt))

late_back_answer : first (seek_tests late_back) ≡ Ok tt
unfolding seek_tests after_open after_seek reader_at geometry_of
late_back_answer = failed_accepted (seek_tests late_back) (down_passes, (refl, tt))

early_down_answer : first (seek_tests early_down) ≡ Ok tt
unfolding seek_tests after_open after_row reader_at geometry_of
early_down_answer = failed_accepted (seek_tests early_down) (early1_passes, (refl, tt))

blend0_answer : first (blend_tests blend0) ≡ Ok tt
unfolding blend_tests unlike_of same_geometry same_range after_open after_seek reader_at geometry_of reader_layout bad_plane short_plane bad_planes scratch_need
blend0_answer = failed_accepted (blend_tests blend0) (both_pass early0.reader late0.reader state0 back_passes, (refl, (refl, (refl, (refl, (refl, (refl, tt)))))))

too_heavy_answer : first (blend_tests too_heavy) ≡ Err Unlike
unfolding blend_tests unlike_of same_geometry same_range after_open after_row after_seek reader_at geometry_of reader_layout
too_heavy_answer = passed_over _ BadState _ (both_pass early1.reader late1.reader early1_passes late1_passes) ∙ refused_here _ Unlike _ refl

blend1_answer : first (blend_tests blend1) ≡ Ok tt
unfolding blend_tests unlike_of same_geometry same_range after_open after_row after_seek reader_at geometry_of reader_layout bad_plane short_plane bad_planes scratch_need
blend1_answer = failed_accepted (blend_tests blend1) (both_pass early2.reader late1.reader early2_passes late1_passes, (refl, (refl, (rw (early_long, late_long) refl, (refl, (refl, (refl, tt)))))))

-- ---- the lists meet the premise

early_premise : Premise Start early_list
unfolding Premise next moved Handed done event_of row_of
early_premise =
    rw (open_a_answer, blend0_answer, too_heavy_answer, early_down_answer, blend1_answer)
    ((λ _. tt), ((λ _. (shows_own open_a, refl, refl)), ((λ t. absurd t), ((λ _. refl), ((λ _. (shows_own open_a, refl, refl)), tt)))))

late_premise : Premise Start late_list
unfolding Premise next moved Handed done event_of row_of
late_premise =
    rw (open_c_answer, late_down_answer, late_back_answer, blend0_answer, too_heavy_answer, blend1_answer)
    ((λ _. tt), ((λ _. refl), ((λ _. refl), ((λ _. (shows_own open_c, refl, refl)), ((λ t. absurd t), ((λ _. (shows_own open_c, refl, refl)), tt))))))

early_gives : Gives open_a (early_event blend1 (reply blend1) (early_scratch blend1)) Start early_list
unfolding next moved done event_of
early_gives = rw (open_a_answer, blend0_answer, too_heavy_answer, early_down_answer, blend1_answer) (later (later (later (later (here tt refl)))))

late_gives : Gives open_c (late_event blend1 (reply blend1) (late_scratch blend1)) Start late_list
unfolding next moved done event_of
late_gives = rw (open_c_answer, late_down_answer, late_back_answer, blend0_answer, too_heavy_answer, blend1_answer) (later (later (later (later (later (here tt refl))))))

early_all : AllRan early_list
unfolding AllRan
early_all = (open_ran open_a bytes_a, (early_ran blend0, (early_ran too_heavy, (seek_ran early_down, (early_ran blend1, tt)))))

late_all : AllRan late_list
unfolding AllRan
late_all = (open_ran open_c bytes_c, (seek_ran late_down, (seek_ran late_back, (late_ran blend0, (late_ran too_heavy, (late_ran blend1, tt))))))

pub early_run : Run open_a (early_event blend1 (reply blend1) (early_scratch blend1)) early_list
early_run = record { ran = early_all; premise = early_premise; gives = early_gives }

pub late_run : Run open_c (late_event blend1 (reply blend1) (late_scratch blend1)) late_list
late_run = record { ran = late_all; premise = late_premise; gives = late_gives }

-- ---- and the row given is the mix, by its numbers: 5 sixteenths of the way from 0, 68, 0 and 0, 100, 0 to 148, 59, 98 and 133, 19, 81

abbrev mixed : ℕ → Colour
mixed x = mix_colour 5 (guided_colour open_a 1 x) (guided_colour open_c 1 x)

mixed_0 : mixed 0 ≡ record { red = 46; green = 65; blue = 31 }
unfolding mix_colour mix_of
mixed_0 = rw (early_row.0, late_row.0) refl

mixed_1 : mixed 1 ≡ record { red = 42; green = 75; blue = 25 }
unfolding mix_colour mix_of
mixed_1 = rw (early_row.1, late_row.1) refl

pub worked_row : row blend1 ≡ 46 ∷ 65 ∷ 31 ∷ 42 ∷ 75 ∷ 25 ∷ 9 ∷ []
unfolding pixel pixels
worked_row =
    blend_claims.rows blend1 (reply blend1) (early_scratch blend1) (late_scratch blend1) (row blend1) (given blend1) open_a open_c early_list late_list early_run late_run
    ∙ rw (mixed_0, mixed_1) refl
