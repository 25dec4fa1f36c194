-- The steps of a chroma row over lent scratch, as the inner functions' contracts say them. Definitions only.
use Rattle.std.specs.Prelude.{List, ℕ, ◌+◌, Float}
use Rattle.laws.specs.Floats.{f32, ◌⊕◌, ◌⊗◌}
use Rattle.laws.specs.Lists.{put}
use Rattle.image.specs.declared.layout.Layout.{Layout}
use Rattle.image.specs.declared.chroma.Chroma.{Chroma}
use Rattle.image.specs.Scratch.{cell_at}
use Rattle.guided.specs.Guided.{three, luma_of}
use Rattle.guided.specs.Scratch.{slot_at, first_of}

-- luma's cells f of chroma row j, their sums, and the sums of their squares, put into luma's buffers
unfoldable pub stat_rows : Layout → (ℕ → Float) → ℕ → List Float → List Float
stat_rows l f j s = put (put (put s (slot_at l 0 j) l.cw f) (slot_at l 1 j) l.cw (three ◌⊕◌ l.cw f)) (slot_at l 2 j) l.cw (three ◌⊕◌ l.cw (λ i. f i ⊗ f i))

-- a component's cells f of chroma row j and the sums of products h, put into its two buffers
unfoldable pub pair_rows : Layout → Chroma → (ℕ → Float) → (ℕ → Float) → ℕ → List Float → List Float
pair_rows l k f h j s = put (put s (slot_at l (first_of k) j) l.cw f) (slot_at l (first_of k + 1) j) l.cw (three ◌⊕◌ l.cw h)

-- luma's three rows of chroma row j, `luma y x` being the samples
unfoldable pub luma_part : Layout → (ℕ → ℕ → ℕ) → ℕ → List Float → List Float
luma_part l luma j = stat_rows l (luma_of l luma j) j

-- a component's two rows of chroma row j, `c j i` being the samples; luma is the cell luma that scratch holds
unfoldable pub chroma_part : Layout → (ℕ → ℕ → ℕ) → Chroma → ℕ → List Float → List Float
chroma_part l c k j s = pair_rows l k (λ i. f32 (c j i)) (λ i. cell_at s (slot_at l 0 j) i ⊗ f32 (c j i)) j s
