-- The lines of faults.
use Rattle.std.specs.Prelude.{ℕ, List, codes}
use Rattle.serde_json.specs.Data.{Data, object, no_members}
use Rattle.bh_faults.specs.declared.fault.Fault.{Fault}
use Rattle.bh_faults.specs.declared.fault.Fault.TheVariants as faults
use Rattle.bh_replies.specs.ReplyLine.{text_member, json_line}

-- the word of each fault
abbrev pub fault_word : Fault → List ℕ
fault_word faults.Syntax = codes "syntax"
fault_word faults.Field = codes "field"
fault_word faults.Op = codes "op"
fault_word faults.Group = codes "group"
fault_word faults.Command = codes "command"
fault_word faults.Long = codes "long"
fault_word faults.Property = codes "property"
fault_word faults.Range = codes "range"
fault_word faults.Name = codes "name"
fault_word faults.Like = codes "like"
fault_word faults.Groups = codes "groups"

-- the object of a line that says why nothing was done
abbrev pub error_data : List ℕ → Data
error_data why = object (text_member (codes "error") why no_members)

-- the line of a fault
unfoldable pub fault_line : Fault → List ℕ
fault_line fault = json_line (error_data (fault_word fault))
