-- The whole-number form of green's offset is the plain quotient.
use Rattle.std.proofs.Common.{◌≡◌, ℕ, ◌+◌, ◌*◌, ◌-◌, ◌/◌, ◌<◌, ◌≤◌, arith}

-- a sum x in 2^41ths that is near enough to t of 75,136,000: its whole part is t's quotient
scaled_down : (b r t x : ℕ) → b ≤ 65536 → r ≤ 65536 → 73375 * x + (14717 * b + 17652 * r) ≡ 2147483648 * t + 2132473540 → x / 2199023255552 ≡ t / 75136000
scaled_down b r t x hb hr e =
    let q : ℕ = t / 75136000 in
    let l : 75136000 * q ≤ t = omega arith in
    let m : t < 75136000 * q + 75136000 = omega arith in
    let n : 2199023255552 * q ≤ x = omega arith in
    let o : x < 2199023255552 * q + 2199023255552 = omega arith in
    omega arith

pub green_fast : (b r : ℕ) → b ≤ 65536 → r ≤ 65536 → 272 - (2956108189 * (b + r) + 3178275799 * r + 90403456700) / 2199023255552 ≡ (20509039104 - 101004 * b - 209599 * r) / 75136000
green_fast b r hb hr =
    let e = scaled_down b r (101004 * b + 209599 * r + 3088895) (2956108189 * (b + r) + 3178275799 * r + 90403456700) hb hr (omega arith) in
    omega arith
