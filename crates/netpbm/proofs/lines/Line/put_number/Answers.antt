-- Digits are pushed from the highest down. Digits has `digits_of n` spelled out for one, two, three and four digits, and each branch rewrites
-- by its one. The same laws give how many digits there are (`has_1` to `has-4`), and so that there is room for each push.
use Rattle.std.proofs.Common.{◌≡◌, ap, ◌∙◌, ◌+◌, ◌/◌, ◌%◌, arith, length}
use Rattle.netpbm.specs.declared.lines.Line.{Line}
use Rattle.netpbm.specs.Lines.{digits_of}
use Rattle.netpbm.specs.Inner.Texts.{pushed, written}
use Rattle.netpbm.proofs.Digits.{one_digit, two_digits, three_digits, four_digits}
use Rattle.netpbm.proofs.Written.{put_is}
use Rattle.netpbm.proofs.lines.Line.put_number.Goals as goal

pub push_digit-requires : goal.push_digit-requires
push_digit-requires c =
    let has_1 : length (digits_of c.args.n) ≡ 1 = ap length (one_digit c.args.n c.if-n-lt10.true) in
    let l = has_1 in (omega arith, omega arith)

pub returns-then-n-lt10 : goal.returns-then-n-lt10
unfolding written
returns-then-n-lt10 c =
    let n = c.args.n in put_is _ _ _ (rw (one_digit n c.if-n-lt10.true) c.push_digit.ensures.0)

pub push_digit-requires-then-n-lt100 : goal.push_digit-requires-then-n-lt100
push_digit-requires-then-n-lt100 c =
    let has-2 : length (digits_of c.args.n) ≡ 2 = ap length (two_digits c.args.n c.if-n-lt10.false c.if-n-lt100.true) in
    let l = has-2 in (omega arith, omega arith)

pub push_digit-requires-then-n-lt100-2 : goal.push_digit-requires-then-n-lt100-2
push_digit-requires-then-n-lt100-2 c =
    let has-2 : length (digits_of c.args.n) ≡ 2 = ap length (two_digits c.args.n c.if-n-lt10.false c.if-n-lt100.true) in
    let l = has-2 in (omega arith, omega arith)

pub returns-then-n-lt100 : goal.returns-then-n-lt100
unfolding written
returns-then-n-lt100 c =
    let n = c.args.n in put_is _ _ _ (rw (two_digits n c.if-n-lt10.false c.if-n-lt100.true) (c.push_digit-then-n-lt100-2.ensures.0 ∙ ap (λ (l : Line). pushed l (48 + n % 10)) c.push_digit-then-n-lt100.ensures.0))

pub push_digit-requires-then-n-lt1000 : goal.push_digit-requires-then-n-lt1000
push_digit-requires-then-n-lt1000 c =
    let has-3 : length (digits_of c.args.n) ≡ 3 = ap length (three_digits c.args.n c.if-n-lt100.false c.if-n-lt1000.true) in
    let l = has-3 in (omega arith, omega arith)

pub push_digit-requires-then-n-lt1000-2 : goal.push_digit-requires-then-n-lt1000-2
push_digit-requires-then-n-lt1000-2 c =
    let has-3 : length (digits_of c.args.n) ≡ 3 = ap length (three_digits c.args.n c.if-n-lt100.false c.if-n-lt1000.true) in
    let l = has-3 in (omega arith, omega arith)

pub push_digit-requires-then-n-lt1000-3 : goal.push_digit-requires-then-n-lt1000-3
push_digit-requires-then-n-lt1000-3 c =
    let has-3 : length (digits_of c.args.n) ≡ 3 = ap length (three_digits c.args.n c.if-n-lt100.false c.if-n-lt1000.true) in
    let l = has-3 in (omega arith, omega arith)

pub returns-then-n-lt1000 : goal.returns-then-n-lt1000
unfolding written
returns-then-n-lt1000 c =
    let n = c.args.n in put_is _ _ _ (rw (three_digits n c.if-n-lt100.false c.if-n-lt1000.true) (c.push_digit-then-n-lt1000-3.ensures.0 ∙ ap (λ (l : Line). pushed l (48 + n % 10)) (c.push_digit-then-n-lt1000-2.ensures.0 ∙ ap (λ (l : Line). pushed l (48 + n / 10 % 10)) c.push_digit-then-n-lt1000.ensures.0)))

pub push_digit-requires-2 : goal.push_digit-requires-2
push_digit-requires-2 c =
    let has-4 : length (digits_of c.args.n) ≡ 4 = ap length (four_digits c.args.n c.if-n-lt1000.false c.requires.n_bound) in
    let l = has-4 in (omega arith, omega arith)

pub push_digit-front-requires : goal.push_digit-front-requires
push_digit-front-requires c =
    let has-4 : length (digits_of c.args.n) ≡ 4 = ap length (four_digits c.args.n c.if-n-lt1000.false c.requires.n_bound) in
    let l = has-4 in (omega arith, omega arith)

pub push_digit-requires-3 : goal.push_digit-requires-3
push_digit-requires-3 c =
    let has-4 : length (digits_of c.args.n) ≡ 4 = ap length (four_digits c.args.n c.if-n-lt1000.false c.requires.n_bound) in
    let l = has-4 in (omega arith, omega arith)

pub push_digit-requires-4 : goal.push_digit-requires-4
push_digit-requires-4 c =
    let has-4 : length (digits_of c.args.n) ≡ 4 = ap length (four_digits c.args.n c.if-n-lt1000.false c.requires.n_bound) in
    let l = has-4 in (omega arith, omega arith)

pub returns : goal.returns
unfolding written
returns c =
    let n = c.args.n in put_is _ _ _ (rw (four_digits n c.if-n-lt1000.false c.requires.n_bound) (c.push_digit-4.ensures.0 ∙ ap (λ (l : Line). pushed l (48 + n % 10)) (c.push_digit-3.ensures.0 ∙ ap (λ (l : Line). pushed l (48 + n / 10 % 10)) (c.push_digit-front.ensures.0 ∙ ap (λ (l : Line). pushed l (48 + n / 100 % 10)) c.push_digit-2.ensures.0))))
