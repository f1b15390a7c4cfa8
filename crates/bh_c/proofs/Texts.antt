-- Bytes that are a text, or are none.
use Rattle.std.proofs.Common.{◌≡◌, ℕ, List, ◌≤◌, length, take, nat_le, Bool, true, false, Some, None, Ok, Err, IsUtf8, refl, ap, sym, ◌∙◌, if◌then◌else◌}
use Rattle.std.proofs.lemmas.Bool.{le-leb}
use Rattle.std.proofs.lemmas.Str.{is_utf8-from_IsUtf8, IsUtf8-from_is_utf8}
use Rattle.std.specs.Str.{is_utf8}
use Rattle.bh_port.specs.declared.groups.Entry.{Entry}
use Rattle.bh_port.specs.Course.{command_at}
use Rattle.bh_port.specs.Entries.{number_of}
use Rattle.bh_props.specs.SettingsView.{SettingsView}
use Rattle.bh_c.specs.declared.outcome.Outcome.TheVariants.{NotText, TooLong}
use Rattle.bh_c.specs.Given.{or_not_text, text_in}
use Rattle.bh_c.specs.Lines.{if_text, line_text}
use Rattle.bh_c.specs.Names.{command_in, group_in, or_no_command, or_no_group}

-- the test fails of bytes that are not UTF-8
is_utf8-none : (bytes : List ℕ) → ¬ (IsUtf8 bytes) → is_utf8 bytes ≡ false
is_utf8-none bytes none = by_test (is_utf8 bytes) (IsUtf8-from_is_utf8 bytes)
  where
    by_test : (b : Bool) → (b ≡ true → IsUtf8 bytes) → b ≡ false
    by_test true valid = absurd (none (valid refl))
    by_test false valid = refl

-- a choice by the test, of bytes that are not UTF-8
if-none : {A : Type 0} (bytes : List ℕ) (x y : A) → ¬ (IsUtf8 bytes) → (if is_utf8 bytes then x else y) ≡ y
if-none bytes x y none = ap (λ b. if b then x else y) (is_utf8-none bytes none)

-- the same, of bytes that are
if-text : {A : Type 0} (bytes : List ℕ) (x y : A) → IsUtf8 bytes → (if is_utf8 bytes then x else y) ≡ x
if-text bytes x y valid = ap (λ b. if b then x else y) (is_utf8-from_IsUtf8 bytes valid)

-- a name that is no text is that of no group
pub group-none : (entries : List Entry) (name : List ℕ) → ¬ (IsUtf8 name) → Err NotText ≡ group_in entries name
unfolding group_in
group-none entries name none = sym (if-none name (or_no_group (number_of entries name)) (Err NotText) none)

-- else the text is looked up
pub group-text : (entries : List Entry) (name text : List ℕ) → (text ≡ name) × IsUtf8 name → or_no_group (number_of entries text) ≡ group_in entries name
unfolding group_in
group-text entries name text valid =
    ap (λ s. or_no_group (number_of entries s)) valid.0 ∙ sym (if-text name (or_no_group (number_of entries name)) (Err NotText) valid.1)

-- a name that is no text is that of no command
pub command-none : (service : SettingsView) (entries : List Entry) (group : ℕ) (name : List ℕ) → ¬ (IsUtf8 name) → Err NotText ≡ command_in service entries group name
unfolding command_in
command-none service entries group name none = sym (if-none name (or_no_command (command_at service entries group name)) (Err NotText) none)

-- else the text is looked up
pub command-text : (service : SettingsView) (entries : List Entry) (group : ℕ) (name text : List ℕ) → (text ≡ name) × IsUtf8 name → or_no_command (command_at service entries group text) ≡ command_in service entries group name
unfolding command_in
command-text service entries group name text valid =
    ap (λ s. or_no_command (command_at service entries group s)) valid.0 ∙ sym (if-text name (or_no_command (command_at service entries group name)) (Err NotText) valid.1)

-- a line that is no text
pub line-none : (bytes : List ℕ) → ¬ (IsUtf8 bytes) → None ≡ if_text bytes
unfolding if_text
line-none bytes none = sym (if-none bytes (Some bytes) None none)

-- a line that is a text
pub line-text : (bytes text : List ℕ) → (text ≡ bytes) × IsUtf8 bytes → Some text ≡ if_text bytes
unfolding if_text
line-text bytes text valid = ap Some valid.0 ∙ sym (if-text bytes (Some bytes) None valid.1)

-- bytes that are no text
pub given-none : (bytes : List ℕ) → ¬ (IsUtf8 bytes) → or_not_text bytes ≡ Err NotText
unfolding or_not_text
given-none bytes none = if-none bytes (Ok bytes) (Err NotText) none

-- bytes that are a text
pub given-text : (bytes text : List ℕ) → (text ≡ bytes) × IsUtf8 bytes → or_not_text bytes ≡ Ok text
unfolding or_not_text
given-text bytes text valid = if-text bytes (Ok bytes) (Err NotText) valid.1 ∙ ap Ok (sym valid.0)

-- a choice by a bound that is kept
if-within : {A : Type 0} (a b : ℕ) (x y : A) → a ≤ b → (if nat_le a b then x else y) ≡ x
if-within a b x y within = ap (λ t. if t then x else y) (le-leb a b within)

-- a line that is not too long
pub line-within : (line : List ℕ) → length line ≤ 1024 → if_text line ≡ line_text line
line-within line within = sym (if-within (length line) 1024 (if_text line) None within)

-- a text that is not too long
pub given-within : (limit count : ℕ) (bytes : List ℕ) → count ≤ limit → or_not_text (take count bytes) ≡ text_in limit count bytes
given-within limit count bytes within = sym (if-within count limit (or_not_text (take count bytes)) (Err TooLong) within)

-- the text of a line is the line
pub line_text-same : (bytes text : List ℕ) → Some text ≡ line_text bytes → text ≡ bytes
unfolding if_text
line_text-same bytes text is = by_tests (nat_le (length bytes) 1024) (is_utf8 bytes) is
  where
    by_tests : (a b : Bool) → Some text ≡ (if a then (if b then Some bytes else None) else None) → text ≡ bytes
    by_tests true true e = let same : Some text ≡ Some bytes = e in cc
    by_tests true false e = let none : Some text ≡ None = e in cc
    by_tests false b e = let none : Some text ≡ None = e in cc
