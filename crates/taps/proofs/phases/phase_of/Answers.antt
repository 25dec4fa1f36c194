-- Each arm has its ratio and its pixel, and there the definition computes to the literal.
use Rattle.std.proofs.Common.{◌≡◌, arith}
use lib.Ieee.{of_bits, div, of_int}
use Rattle.taps.specs.Taps.{phase_of}
use Rattle.taps.proofs.phases.phase_of.Goals as goal

pub returns-in-2-eq0 : goal.returns-in-2-eq0
unfolding phase_of of_bits div of_int
returns-in-2-eq0 c = let e : c.args.r ≡ 2 = omega arith in let k : c.args.k ≡ 0 = omega arith in rw (e, k) c.from_left.ensures

pub returns-in-2-default : goal.returns-in-2-default
unfolding phase_of of_bits div of_int
returns-in-2-default c = let e : c.args.r ≡ 2 = omega arith in let k : c.args.k ≡ 1 = omega arith in rw (e, k) c.to_right.ensures

pub returns-in-3-eq0 : goal.returns-in-3-eq0
unfolding phase_of of_bits div of_int
returns-in-3-eq0 c = let e : c.args.r ≡ 3 = omega arith in let k : c.args.k ≡ 0 = omega arith in rw (e, k) c.from_left-in-3-eq0.ensures

pub returns-in-3-eq1 : goal.returns-in-3-eq1
unfolding phase_of of_bits div of_int
returns-in-3-eq1 c = let e : c.args.r ≡ 3 = omega arith in let k : c.args.k ≡ 1 = omega arith in rw (e, k) c.to_right-in-3-eq1.ensures

pub returns-in-3-default : goal.returns-in-3-default
unfolding phase_of of_bits div of_int
returns-in-3-default c = let e : c.args.r ≡ 3 = omega arith in let k : c.args.k ≡ 2 = omega arith in rw (e, k) c.to_right-in-3-default.ensures

pub returns-in-4-eq0 : goal.returns-in-4-eq0
unfolding phase_of of_bits div of_int
returns-in-4-eq0 c = let e : c.args.r ≡ 4 = omega arith in let k : c.args.k ≡ 0 = omega arith in rw (e, k) c.from_left-in-4-eq0.ensures

pub returns-in-4-eq1 : goal.returns-in-4-eq1
unfolding phase_of of_bits div of_int
returns-in-4-eq1 c = let e : c.args.r ≡ 4 = omega arith in let k : c.args.k ≡ 1 = omega arith in rw (e, k) c.from_left-in-4-eq1.ensures

pub returns-in-4-eq2 : goal.returns-in-4-eq2
unfolding phase_of of_bits div of_int
returns-in-4-eq2 c = let e : c.args.r ≡ 4 = omega arith in let k : c.args.k ≡ 2 = omega arith in rw (e, k) c.to_right-in-4-eq2.ensures

pub returns-in-4-default : goal.returns-in-4-default
unfolding phase_of of_bits div of_int
returns-in-4-default c = let e : c.args.r ≡ 4 = omega arith in let k : c.args.k ≡ 3 = omega arith in rw (e, k) c.to_right-in-4-default.ensures

pub returns-in_default : goal.returns-in_default
unfolding phase_of of_bits div of_int
returns-in_default c = let e : c.args.r ≡ 1 = omega arith in let k : c.args.k ≡ 0 = omega arith in rw (e, k) c.to_right-in_default.ensures
