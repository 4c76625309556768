mod TileLaws
mod IncrementLaws
