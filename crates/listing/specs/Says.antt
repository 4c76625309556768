-- What reading a file answers, and where a text ends.
use Rattle.std.specs.Prelude.{ℕ, Result, Ok, Err}
use Rattle.bitio.specs.Parse.{Answer, refused, accepted}
use Rattle.listing.specs.File.{FileReading, bad, full, read_layout}
use Rattle.listing.specs.declared.file.Layout.{Layout}
use Rattle.listing.specs.declared.file.Unread.{Unread}
use Rattle.listing.specs.declared.file.Unread.TheVariants.{Bad, Full}

abbrev pub file_says : Result Layout Unread → FileReading
file_says (Ok l) = read_layout l
file_says (Err Bad) = bad
file_says (Err Full) = full

-- the place behind a text, or 0 where it had no room
abbrev pub end_or_none : Answer ℕ → ℕ
end_or_none (refused k) = 0
end_or_none (accepted end) = end
