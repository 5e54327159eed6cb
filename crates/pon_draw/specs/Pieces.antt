-- The pieces of a part of the frame in rows of equal time.
use Rattle.std.specs.Prelude.{ℕ, ◌≡◌, ◌+◌, ◌*◌, ◌<◌, ◌≤◌, ◌⊎◌}
use Rattle.pon_draw.specs.declared.rows.Piece.{Piece}
use Rattle.pon_draw.specs.declared.rows.TheConstants.{TIME_ROW_WORDS}

-- the piece begins at a word, has one at least, and ends at the end of its row or of the part
pub record IsPieceAt (at end : ℕ) (p : Piece) : Type 0 where
  pub place : p.row * TIME_ROW_WORDS + p.first ≡ at
  pub some : 0 < p.words
  pub within : p.first + p.words ≤ TIME_ROW_WORDS
  pub ends : (at + p.words ≡ end) ⊎ ((p.first + p.words ≡ TIME_ROW_WORDS) × (at + p.words < end))
