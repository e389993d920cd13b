-- A reader that has gone over some bytes of its image.
use Rattle.std.specs.Prelude.{ℕ, ◌+◌}
use Rattle.image_reader.specs.declared.Reader.{Reader}

abbrev pub moved_on : Reader → ℕ → Reader
moved_on r w = record { image = r.image; at = r.at + w }
