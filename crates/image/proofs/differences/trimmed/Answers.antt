use Rattle.std.proofs.Common.{refl, sym}
use Rattle.image.specs.Inner.Differences.{trimmed_of}
use Rattle.image.proofs.differences.trimmed.Goals as goal

pub returns-then-is_empty : goal.returns-then-is_empty
unfolding trimmed_of
returns-then-is_empty c =
    rw (sym c.is_empty.ensures, c.if-is_empty.true) refl

pub returns : goal.returns
unfolding trimmed_of
returns c =
    rw (sym c.is_empty.ensures, c.if-is_empty.false) refl
