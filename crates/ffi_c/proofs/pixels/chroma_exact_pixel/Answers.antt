use Rattle.ffi_c.proofs.pixels.chroma_exact_pixel.Goals as goal

-- the call of ffi promises the same, word for word
pub returns : goal.returns
returns c = c.chroma_exact_pixel.ensures
