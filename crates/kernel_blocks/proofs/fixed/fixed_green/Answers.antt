use Rattle.std.proofs.Common.{◌≡◌, refl, ◌∙◌, ℕ, get_or, rules}
use lib.IntN.{ℤ, pos}
use Rattle.lanes.proofs.Made.{made}
use Rattle.kernels.specs.Kernels.{fixed255, fixed_green_cb, fixed_green_cr}
use Rattle.kernel_blocks.specs.Inner.Blocks.{Small}
use Rattle.kernel_blocks.proofs.FixedRows.{green_cb_small, green_cr_small}
use Rattle.kernel_blocks.proofs.fixed.fixed_green.Goals as goal

pub green_row-requires : goal.green_row-requires
green_row-requires c =
    λ k h. (
      made c.from_fn.ensures.items (λ (i : ℕ) (z : ℤ). Small z) (λ i z q l u. (search rules, search (rules, green_cb_small))) k (pos 0) h,
      made c.from_fn-2.ensures.items (λ (i : ℕ) (z : ℤ). Small z) (λ i z q l u. (search rules, search (rules, green_cr_small))) k (pos 0) h,
    )

pub returns : goal.returns
unfolding fixed255
returns c =
    let a = c.args in
    λ k h.
    let m = made c.from_fn.ensures.items (λ (i : ℕ) (z : ℤ). z ≡ fixed_green_cb (get_or a.cb i 0)) (λ i z q l u. (search rules, search rules)) k (pos 0) h in
    let n = made c.from_fn-2.ensures.items (λ (i : ℕ) (z : ℤ). z ≡ fixed_green_cr (get_or a.cr i 0)) (λ i z q l u. (search rules, search rules)) k (pos 0) h in
    c.green_row.ensures k h ∙ rw (m, n) refl
