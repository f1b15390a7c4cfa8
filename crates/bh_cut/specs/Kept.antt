-- What is kept of some bytes.
use Rattle.std.specs.Prelude.{◌≡◌, ℕ, List, [], ◌∷◌, ◌++◌, ◌==◌, if◌then◌else◌}
use Rattle.bh_lines.specs.Lines.{Cut, line, ended, stopped, cut}
use Rattle.bh_cut.specs.Named.{names_one}

-- what follows the last line feed, if anything
abbrev pub last_piece : List ℕ → List (List ℕ)
last_piece [] = []
last_piece (b ∷ bs) = (b ∷ bs) ∷ []

-- the bytes, of which those in front have been read of a piece
unfoldable pub pieces_from : List ℕ → List ℕ → List (List ℕ)
pieces_from front [] = last_piece front
pieces_from front (b ∷ bs) = if b == 10 then (front ++ 10 ∷ []) ∷ pieces_from [] bs else pieces_from (front ++ b ∷ []) bs

-- the bytes in pieces, each up to and with its line feed; what follows the last line feed is a piece too
abbrev pub pieces : List ℕ → List (List ℕ)
pieces bytes = pieces_from [] bytes

-- the piece of a line, byte for byte, where the line names one of the groups
abbrev pub own_piece : List (List ℕ) → List ℕ → List ℕ → List ℕ
own_piece names bytes piece = if names_one names bytes then piece else []

-- what is kept of a piece that is cut so, and then what is kept behind it: nothing behind a line that is refused
abbrev pub with_piece : List (List ℕ) → Cut → List ℕ → List ℕ → List ℕ
with_piece names (line bytes rest) piece later = own_piece names bytes piece ++ later
with_piece names ended piece later = later
with_piece names stopped piece later = []

-- what is kept of the pieces
unfoldable pub kept_of : List (List ℕ) → List (List ℕ) → List ℕ
kept_of names [] = []
kept_of names (piece ∷ rest) = with_piece names (cut piece) piece (kept_of names rest)

-- what is kept of the bytes for the groups: the lines that name one of them, byte for byte and in their order, up to a line
-- that is too long or not UTF-8
unfoldable pub kept : List (List ℕ) → List ℕ → List ℕ
kept names bytes = kept_of names (pieces bytes)

-- those lines alone that name one of the groups
abbrev pub lines_of : List (List ℕ) → Cut → Cut
lines_of names (line bytes rest) = if names_one names bytes then line bytes (lines_of names rest) else lines_of names rest
lines_of names ended = ended
lines_of names stopped = ended

-- the piece is a line, and is put behind what was there if the line names one of the groups
pub record KeepsPiece (names : List (List ℕ)) (piece old new : List ℕ) : Type 0 where
  pub bytes : List ℕ
  pub rest : Cut
  pub is_line : cut piece ≡ line bytes rest
  pub wrote : new ≡ old ++ own_piece names bytes piece
