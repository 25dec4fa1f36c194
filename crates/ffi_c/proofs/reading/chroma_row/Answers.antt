use Rattle.ffi_c.proofs.reading.chroma_row.Goals as goal

-- the call of ffi promises the same, word for word
pub returns : goal.returns
returns c = c.chroma_row.ensures
