use Rattle.std.proofs.Common.{refl}
use Rattle.laws.proofs.Order.{self_equal, self_unequal, differs_self}
use Rattle.fround.specs.Rounding.{is_same_float}
use Rattle.fround.proofs.same_float.Goals as goal

pub returns-then-y : goal.returns-then-y
unfolding is_same_float
returns-then-y c =
    rw (self_equal c.args.x c.if-x.true, self_equal c.args.y c.if-y.true) refl

pub returns-then-x : goal.returns-then-x
unfolding is_same_float
returns-then-x c =
    rw (self_equal c.args.x c.if-x.true, self_unequal c.args.y c.if-y.false) refl

pub returns : goal.returns
unfolding is_same_float
returns c =
    rw (self_unequal c.args.x c.if-x.false) (differs_self c.args.y)
