-- A component's values: only its rows of cells and the detail are looked at.
-- These rows lie behind the finished rows: `inputs_inside`.
use Rattle.std.proofs.Common.{◌≡◌, refl, ap, ◌∙◌, List, ℕ, ◌+◌, ◌*◌, ◌/◌, ◌≤◌, ◌<◌, arith, Float}
use Rattle.laws.specs.Floats.{◌⊕◌, ◌⊗◌}
use Rattle.laws.specs.Lists.{put}
use Rattle.laws.proofs.Lists.{put_same}
use Rattle.image.specs.declared.layout.Layout.{Layout}
use Rattle.image.specs.declared.chroma.Chroma.{Chroma}
use Rattle.fround.specs.Rounding.{fmin, fmax}
use Rattle.image.specs.Scratch.{scratch_need}
use Rattle.guided.specs.Guided.{across_to, value_of}
use Rattle.guided.specs.Scratch.{finished_at, result_at, Down, Least, Greatest, num_down, column_at}
use Rattle.guided.proofs.Places.{buffer_behind, result_fits, column_behind, column_fits}
use Rattle.guided.proofs.Held.{down_small}
use Rattle.guided_pixels.specs.declared.value_inputs.ValueInputs.{ValueInputs}
use Rattle.laws.proofs.Counts.{none_plus, plus_none}
use Rattle.guided_pixels.specs.Inner.Values.{CellsInside, InputsInside, inputs_of, value_at, value_row}
use Rattle.guided_pixels.specs.Inner.Lines.{line_run}

-- a value from its parts
pub value_is : (l : Layout) (gc ga lo hi : ℕ → Float) (d : Float) (x : ℕ) (u v r : Float) → u ≡ across_to l gc x → v ≡ across_to l ga x → r ≡ fmin (fmax (u ⊕ v ⊗ d) (lo (x / l.rh))) (hi (x / l.rh)) → r ≡ value_of l gc ga lo hi d x
unfolding value_of
value_is l gc ga lo hi d x u v r p q e = e ∙ rw (p, q) refl

column : (l : Layout) (m len : ℕ) → m < 2 → l.cw ≤ l.w → scratch_need l ≤ len → CellsInside (column_at l m) (3 * l.w) l.cw len
column l m len h c k = record { behind = column_behind l m; fits = omega (arith, column_fits l m h c) }

result : (l : Layout) (d : Down) (j len : ℕ) → l.cw ≤ l.w → scratch_need l ≤ len → CellsInside (result_at l (num_down d) j) (3 * l.w) l.cw len
unfolding result_at
result l d j len c k = record { behind = buffer_behind l _; fits = omega (arith, result_fits l (num_down d) j (down_small d) c) }

-- they lie behind the detail and within scratch
pub inputs_inside : (l : Layout) (k : Chroma) (j : ℕ) (t : ValueInputs) (len : ℕ) → t ≡ inputs_of l k j → l.cw ≤ l.w → scratch_need l ≤ len → InputsInside t (3 * l.w) l.cw len
unfolding inputs_of
inputs_inside l k j t len e c h =
    rw e (record {
      cells = column l 0 len (omega arith) c h;
      slopes = column l 1 len (omega arith) c h;
      least = result l (Least k) j len c h;
      greatest = result l (Greatest k) j len c h;
    })

-- a whole row is the run from 0
pub value_line : (l : Layout) (k : Chroma) (j : ℕ) (t : ValueInputs) (dst : ℕ) (s : List Float) → t ≡ inputs_of l k j → dst ≡ finished_at l k → line_run (λ s x. value_at l s t x) dst 0 l.w s ≡ value_row l k j s
unfolding line_run value_row
value_line l k j t dst s e q =
    let f : ℕ → Float = value_at l s (inputs_of l k j) in
    rw (e, q) (ap (λ (a : ℕ). put s a l.w (λ i. f (0 + i))) (plus_none (finished_at l k)) ∙ put_same s (finished_at l k) l.w _ f (λ i h. ap f (none_plus i)))
