-- Laws of pixels stored as words.
use Rattle.std.proofs.Common.{◌≡◌, refl, sym, ◌∙◌, List, ℕ, ◌+◌, ◌-◌, ◌*◌, ◌/◌, ◌%◌, ◌≤◌, ◌<◌, arith, get_or, set}
use lib.Bits.{bit_and, and_mask}
use lib.Seq.{set-get_or}
use Rattle.kernels.specs.Kernels.{Colour}
use Rattle.kernels.specs.Inner.Kernels.{rgb}
use Rattle.kernel_blocks.specs.Stores.{pixel, pixels}
use Rattle.kernel_blocks.specs.Inner.Words.{Word}
use Rattle.kernel_blocks.proofs.Puts.{pixels_more, fourth}

-- the three colour bytes cleared
pub cleared : {w : ℕ} {c : Colour} {d : ℕ} (low : ℕ) → Word w c d → low ≡ 16777215 → (bit_and w low ≤ w) × (w - bit_and w low ≡ 16777216 * d)
cleared {w} {c} {d} low h e = rw e (let m : bit_and w 16777215 ≡ w % 16777216 = and_mask w 24 in let s = h.is in let r = h.red in let g = h.green in let b = h.blue in (omega arith, omega arith))

-- a colour's word and a fourth byte
pub joined : {c : Colour} {x y f : ℕ} → Word x c 0 → y ≡ 16777216 * f → f < 256 → Word (x + y) c f
joined h e l = record { is = let s = h.is in omega arith; red = h.red; green = h.green; blue = h.blue; last = l }

-- ---- a word stored is a pixel stored, where its fourth byte is what lay there

low_byte : (q a m : ℕ) → q ≡ a + 256 * m → a < 256 → q % 256 ≡ a
low_byte q a m e h = omega arith

digits : {w : ℕ} {c : Colour} {d : ℕ} → Word w c d → (rgb (w % 256) (w / 256 % 256) (w / 65536 % 256) ≡ c) × (w / 16777216 ≡ d)
digits {w} {c} {d} h =
    let s = h.is in
    let r = h.red in
    let g = h.green in
    let b = h.blue in
    let x : w % 256 ≡ c.red = low_byte w c.red (c.green + 256 * c.blue + 65536 * d) (omega arith) r in
    let y : w / 256 % 256 ≡ c.green = low_byte (w / 256) c.green (c.blue + 256 * d) (omega arith) g in
    let z : w / 65536 % 256 ≡ c.blue = low_byte (w / 65536) c.blue d (omega arith) b in
    (rw (x, y, z) refl, omega arith)

pub word_stored : (l : List ℕ) (at i : ℕ) (f : ℕ → Colour) {w : ℕ} → Word w (f i) (get_or l (at + i * 4 + 3) 0) → set (pixel (pixels l at 4 f i) (at + i * 4) (rgb (w % 256) (w / 256 % 256) (w / 65536 % 256))) (at + i * 4 + 3) (w / 16777216) ≡ pixels l at 4 f (i + 1)
word_stored l at i f {w} h =
    let d = digits h in
    let v : w / 16777216 ≡ get_or (pixels l at 4 f (i + 1)) (at + i * 4 + 3) 0 = d.1 ∙ sym (fourth l at f (i + 1) i) in
    rw (d.0, pixels_more l at 4 f i, v) (set-get_or (pixels l at 4 f (i + 1)) (at + i * 4 + 3) 0)

-- l is xs after words were stored, which have the bytes of n pixels and of what xs held: the pixels may be named later
abbrev pub AsPixels : List ℕ → List ℕ → ℕ → List ℕ → ℕ → Type 0
AsPixels xs l at w n = (f : ℕ → Colour) → ((k : ℕ) → k < 16 → Word (get_or w k 0) (f k) (get_or xs (at + k * 4 + 3) 0)) → l ≡ pixels xs at 4 f n
