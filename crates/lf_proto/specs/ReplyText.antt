-- The text of a reply, given the names of its cells.
use Rattle.std.specs.Prelude.{ℕ, List, [], ◌∷◌, ◌++◌, length, Option, None, Some, codes, decimal}
use Rattle.std.specs.Fmt.{signed_decimal}
use Rattle.std.specs.List.{join_with_byte}
use Rattle.lf_orient.specs.Words.{orient_word}
use Rattle.lf_floorplan.specs.declared.place.Place.{Place}
use Rattle.lf_rules.specs.declared.rule.Rule.{Rule}
use Rattle.lf_rules.specs.Legality.{number_of}
use Rattle.lf_proto.specs.declared.reply.Reply.{Reply}
use Rattle.lf_proto.specs.declared.reply.Reply.TheVariants.{Done, Opened, Revision, At, Legalized, Tidied, Report, Def, Refused}
use Rattle.lf_proto.specs.declared.reply.Refusal.{Refusal}
use Rattle.lf_proto.specs.declared.reply.Refusal.TheVariants.{BadRequest, NoTeam, NoSession, Stale, NoCell, Unplaced, Illegal, NoPlace, NothingToUndo, SessionsFull, RevisionsSpent, OutOfMemory}

-- a line: words with one space between each two, and a line feed
abbrev pub spaced_line : List (List ℕ) → List ℕ
spaced_line words = join_with_byte 32 words ++ 10 ∷ []

-- a place: its corner and its orientation
abbrev pub reply_place_words : Place → List (List ℕ)
reply_place_words place = signed_decimal place.x ∷ signed_decimal place.y ∷ orient_word place.orient ∷ []

-- the other cell's name, if there is another cell
abbrev pub other_words : Option ℕ → List ℕ → List (List ℕ)
other_words None other_name = []
other_words (Some other) other_name = other_name ∷ []

-- a broken rule, the cell, and the other cell if there is one
abbrev pub illegal_words : Rule → Option ℕ → List ℕ → List ℕ → List (List ℕ)
illegal_words rule other cell_name other_name =
    codes "7" ∷ codes "Illegal" ∷ decimal (number_of rule) ∷ cell_name ∷ other_words other other_name

-- a refusal: its number, its name, and its details
abbrev pub refusal_words : Refusal → List ℕ → List ℕ → List (List ℕ)
refusal_words BadRequest cell_name other_name = codes "1" ∷ codes "BadRequest" ∷ []
refusal_words NoTeam cell_name other_name = codes "2" ∷ codes "NoTeam" ∷ []
refusal_words NoSession cell_name other_name = codes "3" ∷ codes "NoSession" ∷ []
refusal_words (Stale revision) cell_name other_name = codes "4" ∷ codes "Stale" ∷ decimal revision ∷ []
refusal_words NoCell cell_name other_name = codes "5" ∷ codes "NoCell" ∷ []
refusal_words (Unplaced cell) cell_name other_name = codes "6" ∷ codes "Unplaced" ∷ cell_name ∷ []
refusal_words (Illegal rule cell other) cell_name other_name = illegal_words rule other cell_name other_name
refusal_words (NoPlace cell) cell_name other_name = codes "8" ∷ codes "NoPlace" ∷ cell_name ∷ []
refusal_words NothingToUndo cell_name other_name = codes "9" ∷ codes "NothingToUndo" ∷ []
refusal_words SessionsFull cell_name other_name = codes "10" ∷ codes "SessionsFull" ∷ []
refusal_words RevisionsSpent cell_name other_name = codes "11" ∷ codes "RevisionsSpent" ∷ []
refusal_words OutOfMemory cell_name other_name = codes "12" ∷ codes "OutOfMemory" ∷ []

-- the words of a reply
abbrev pub reply_words : Reply → List ℕ → List ℕ → List (List ℕ)
reply_words Done cell_name other_name = codes "ok" ∷ []
reply_words (Opened session revision) cell_name other_name = codes "ok" ∷ decimal session ∷ decimal revision ∷ []
reply_words (Revision revision) cell_name other_name = codes "ok" ∷ decimal revision ∷ []
reply_words (At place) cell_name other_name = codes "ok" ∷ reply_place_words place
reply_words (Legalized revision place) cell_name other_name = codes "ok" ∷ decimal revision ∷ reply_place_words place
reply_words (Tidied revision moved) cell_name other_name = codes "ok" ∷ decimal revision ∷ decimal moved ∷ []
reply_words (Report text) cell_name other_name = codes "ok" ∷ text ∷ []
reply_words (Def text) cell_name other_name = codes "ok" ∷ decimal (length text) ∷ []
reply_words (Refused refusal) cell_name other_name = codes "no" ∷ refusal_words refusal cell_name other_name

-- the text after the line of a reply: all bytes of a DEF text; the line has its length
abbrev pub text_after : Reply → List ℕ
text_after (Def text) = text
text_after _ = []

-- the line of a reply
abbrev pub reply_line : Reply → List ℕ → List ℕ → List ℕ
reply_line reply cell_name other_name = spaced_line (reply_words reply cell_name other_name)

-- the text of a reply: its line, and the text after it
abbrev pub reply_text : Reply → List ℕ → List ℕ → List ℕ
reply_text reply cell_name other_name = reply_line reply cell_name other_name ++ text_after reply
