-- The lines of what a line of a script is told.
use Rattle.std.specs.Prelude.{ℕ, List, codes}
use Rattle.serde_json.specs.Data.{Data, object, no_members}
use Rattle.bh_replies.specs.declared.told.Told.{Told}
use Rattle.bh_replies.specs.declared.told.Told.TheVariants as told
use Rattle.bh_replies.specs.ReplyLine.{text_member, named, reply_data, json_line}

-- the object that tells of a new group of the name
abbrev pub registered_data : List ℕ → Data
registered_data name = object (text_member (codes "group") name (text_member (codes "reply") (codes "registered") no_members))

-- the object of what is told, its members in the order of their names
abbrev pub told_data : Told → Data
told_data (told.Reply reply command) = reply_data command reply
told_data (told.Registered name) = registered_data name
told_data told.Held = named (codes "held")
told_data told.Retired = named (codes "retired")

-- the line of what is told
unfoldable pub told_line : Told → List ℕ
told_line t = json_line (told_data t)
