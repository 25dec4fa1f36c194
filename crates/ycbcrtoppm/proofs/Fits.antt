-- What is written stands in out.
use Rattle.std.proofs.Common.{List, ℕ, ◌≤◌, arith, length, Float, Ok, Err}
use Rattle.picture.specs.Picture.{Outcome, PictureGiven}
use Rattle.picture.proofs.Rooms.{written_fits}
use Rattle.ycbcrtoppm.specs.Inner.Lengths.{written_length}

pub outcome_fits : {input : List ℕ} {scratch : List Float} {out : List ℕ} (outcome : Outcome) {scratch' : List Float} {out' : List ℕ} → PictureGiven input scratch out outcome scratch' out' → written_length outcome ≤ length out
outcome_fits (Ok n) g = written_fits g
outcome_fits (Err why) g = omega arith
