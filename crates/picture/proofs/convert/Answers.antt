-- Planes of one-byte samples lie in the input as they are (`input_turned`), others in the copy (`turn_planes`): either way what `written`
-- promises of the picture that they make is promised of the input (`input_given`).
use Rattle.std.proofs.Common.{◌≡◌, arith, length, rules}
use Rattle.netpbm.proofs.Acceptance.{taken}
use Rattle.picture.proofs.Readings.{taken_longer}
use Rattle.picture.proofs.Reversals.{input_turned, input_given}
use Rattle.picture.proofs.convert.Goals as goal

pub written-requires : goal.written-requires
written-requires c =
    taken c.requires

pub returns-then-reading-eq1 : goal.returns-then-reading-eq1
returns-then-reading-eq1 c =
    input_given c.requires (input_turned c.if-reading-eq1.true) c.written.ensures

pub turn_planes-requires : goal.turn_planes-requires
turn_planes-requires c =
    let t = taken c.requires in
    let n : length c.empty-planes.result ≡ 49152 = search rules in
    record { taken = t; input_in_bounds = omega (arith, t.short) }

pub written-requires-2 : goal.written-requires-2
written-requires-2 c =
    let t = taken c.requires in
    let m = t.short in
    let n : length c.turn_planes.new.planes ≡ 49152 = search rules in
    taken_longer t _ (omega arith) (omega arith)

pub returns : goal.returns
returns c =
    input_given c.requires c.turn_planes.ensures c.written-2.ensures
