-- How an axis is sampled. Definitions only.
use Rattle.laws.specs.declared.axes.Siting.TheVariants.{Centred}
use Rattle.laws.specs.declared.axes.Axis.{Axis}

-- centred, and one cell to the ratio's outputs: the axis of document 01, whose "u = (2o+1−r)/(2r)" puts a sample in the middle of its cell
abbrev pub plain : Axis
plain = record { siting = Centred; num = 1 }
