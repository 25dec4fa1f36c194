use Rattle.std.proofs.Common.{◌≡◌, sym, ℕ, ◌+◌, ◌≤◌, ◌<◌, arith}
use Rattle.colorimetry.specs.Inner.Search.{Least}
use Rattle.colorimetry.proofs.Least.{least_new, least_old}
use Rattle.colorimetry.proofs.shade.first_nearest.Goals as goal
use Rattle.colorimetry.proofs.shade.first_nearest.Goals.{then-next-found, else-next-found}

less : {d : ℕ → ℕ} {i r x off : ℕ} → Least d i r off → x ≡ d i → x < off → Least d (i + 1) i x
less {d} {i} {r} v e h = record { first = least_new d i r v.first (rw (sym e, sym v.is) h); is = e }

no-less : {d : ℕ → ℕ} {i r x off : ℕ} → Least d i r off → x ≡ d i → off ≤ x → Least d (i + 1) r off
no-less {d} {i} {r} v e h = record { first = least_old d i r v.first (rw (sym e, sym v.is) h); is = v.is }

pub loop-i-preserved : goal.loop-i-preserved
loop-i-preserved g c = λ d h.
    let e : c.off-next.result ≡ d c.loop-i.i = h c.loop-i.i c.off-next.result c.loop-i-test.true c.off-next.ensures in
    elim c.if-next-found.branch [
      | then-next-found w ↦ rw w.found-is (less (c.loop-i.invariant d h) e w.if-next-found.true)
      | else-next-found w ↦ rw w.found-is (no-less (c.loop-i.invariant d h) e w.if-next-found.false)
    ]

pub returns : goal.returns
returns g c = λ d h.
    let e : c.loop-i.i ≡ c.args.n = omega arith in
    rw (sym e) (c.loop-i.invariant d h)
