-- The loop's invariant is `AsPixels`: dst is as the first i pixels would leave it, whatever colours the words turn out to hold.
-- A turn is `word_stored`: a word whose fourth byte is what lay there stores a pixel. At the end `words`' contract names the colours.
use Rattle.std.proofs.Common.{◌≡◌, length}
use Rattle.kernel_blocks.proofs.Packed.{AsPixels}
use Rattle.kernel_blocks.proofs.words.put_words.Given as goal

abbrev pub invariant-loop-i : goal.invariant-loop-i
invariant-loop-i l = (length l.dst ≡ length l.initial.dst) × AsPixels l.initial.dst l.dst l.at l.w l.i
