use Rattle.taps.specs.Taps.{phases_of}
use Rattle.std.proofs.Common.{refl}
use Rattle.taps.proofs.phases.phases_of.Goals as goal

pub returns : goal.returns
unfolding phases_of
returns c =
    rw (c.phase_at-4.ensures, c.phase_at-3.ensures, c.phase_at-2.ensures, c.phase_at.ensures) refl
