use Rattle.ffi_c.proofs.filling.chroma_fill.Goals as goal

-- the call of ffi promises the same, word for word
pub returns : goal.returns
returns c = c.chroma_fill.ensures
