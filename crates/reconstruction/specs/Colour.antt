-- 'The colour of one pixel (src/convert.rs, ITU-T T.871)'.

-- "T.871 rules the equations": the three channels from its own coefficients, at every maxval
pub use Rattle.kernels.specs.T871.{t871_colour, chroma_less}
-- "rnd(q) is the floor of q + 1/2"
pub use Rattle.kernels.specs.HalvesUp.{rnd}
-- "Exact kernel, maxval 255", "Exact kernel, other maxval d", "Fixed kernel, maxval 255"
pub use Rattle.kernels.specs.Kernels.{Colour, centred, red_offset, green_offset, blue_offset, exact255, off_centre, exact_at, fixed255}
-- W7: "T.871's equations on 255·(Y−16)/219 and on Cb and Cr as 255·(C−128)/224"
pub use Rattle.kernels.specs.T871.{t871_spans, less16, studio255}
-- the single-pixel kernels on unsigned arguments
pub use Rattle.kernels.specs.Pixels.{exact_colour, ranged_colour, exact_pixel, fixed_pixel}
