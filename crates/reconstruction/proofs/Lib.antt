-- Laws about the promises, which a crate above cites beside the index.
pub mod Laws
