pub mod RgbRows
