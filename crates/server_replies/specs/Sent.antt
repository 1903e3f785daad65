-- A report message written from the start of a buffer on.
use Rattle.std.specs.Prelude.{◌≡◌, List, ℕ}
use Rattle.base_octets.specs.Store.{Stored}
use Rattle.server_report.specs.declared.ReadPlace.{ReadPlace}
use Rattle.server_report.specs.declared.Filled.{Filled}
use Rattle.server_report.specs.Blocks.{PlacedBlock}
use Rattle.server_report.specs.Chunk.{block_room, taken, left, after, any}
use Rattle.server_replies.specs.Messages.{report_message}

pub record Sent (old : List ℕ) (edition exchange turn : ℕ) (at : ReadPlace) (l : List PlacedBlock) (new : List ℕ) (r : Filled) : Type 0 where
  pub stored : Stored old 0 (report_message edition exchange turn l) new r.end
  pub place : r.place ≡ after at (taken block_room l)
  pub more : r.more ≡ any (left block_room l)
