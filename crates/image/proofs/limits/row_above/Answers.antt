use Rattle.std.proofs.Common.{arith}
use Rattle.image.proofs.Any.{bytes_fit, words_fit, row_bytes_is, row_words}
use Rattle.image.proofs.limits.row_above.Goals as goal

pub most_byte-requires : goal.most_byte-requires
most_byte-requires c = bytes_fit _ _ _ _ c.if-sample_bytes-eq1.true c.requires.2

pub returns-then-sample_bytes-eq1 : goal.returns-then-sample_bytes-eq1
returns-then-sample_bytes-eq1 c = rw (c.from.ensures, c.most_byte.ensures) (row_bytes_is _ _ _ _ _ c.if-sample_bytes-eq1.true)

pub most_word-requires : goal.most_word-requires
most_word-requires c = words_fit _ _ _ _ (omega (arith, c.if-sample_bytes-eq1.false)) c.requires.2

pub returns : goal.returns
returns c = rw (c.from-2.ensures, c.most_word.ensures) (row_words _ _ _ _ _ (omega (arith, c.if-sample_bytes-eq1.false)))
