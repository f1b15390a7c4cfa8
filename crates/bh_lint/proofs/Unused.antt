-- What stands at a name that nothing looks up changes no settings.
use Rattle.std.proofs.Common.{◌≡◌, ◌∙◌, ◌+◌, ◌&&◌, ◌==◌, ◌%◌, ℕ, List, [], ◌∷◌, ◌++◌, cond, map, codes, Bool, true, false, Option, Some, None, Result, Ok, Err, refl, sym, ap}
use Rattle.std.specs.Prelude.{nat_le, length, option_and_then}
use Rattle.std.specs.Option.{option_or}
use Rattle.std.specs.Result.{result_and}
use Rattle.std.proofs.lemmas.Bool.{or_parts, false≢true, true≢false}
use Rattle.std.specs.List.{AllByRecursion, find, list_any, flat_map}
use Rattle.std.specs.Str.{bytes_eq}
use Rattle.toml.specs.Data.{Data, get, as_array}
use Rattle.bh_base.specs.Commands.{each_from}
use Rattle.bh_props.specs.declared.property.Property.{Property}
use Rattle.bh_props.specs.declared.property.Property.TheVariants as properties
use Rattle.bh_props.specs.declared.subject.Subject.{Subject}
use Rattle.bh_props.specs.declared.subject.Scope.{Scope}
use Rattle.bh_props.specs.declared.subject.Scope.TheVariants as scopes
use Rattle.bh_props.specs.declared.error.SettingsError.{SettingsError}
use Rattle.bh_props.specs.declared.error.SettingsError.TheVariants as refusals
use Rattle.bh_props.specs.declared.value.Fault.{Fault}
use Rattle.bh_props.specs.declared.value.Fault.TheVariants.{WrongType, OutOfRange}
use Rattle.bh_props.specs.Tree.{look_up}
use Rattle.bh_props.specs.Table.{all, path_of}
use Rattle.bh_props.specs.InForce.{read_given, in_force}
use Rattle.bh_props.specs.Names.{texts, if_counted, if_listed, names_of}
use Rattle.bh_props.specs.Commands.{Commands, commands_in, entries_of, commands_from, commands_of}
use Rattle.bh_props.specs.Subjects.{of_command, properties_of, a_group, a_command, subjects}
use Rattle.bh_props.specs.Refusals.{Checked, has_fault, is_at_fault, is_service, checked_service, number, refused_at, checked_values, checked_windows, has_whole_buckets}
use Rattle.bh_props.specs.Settings.{truth, strategy, optional_number, command_in_force, group_in_force, settings_in_force, settings_of_commands, settings_of_groups, settings_of_named}
use Rattle.bh_lint.specs.declared.table.Table.{Table}
use Rattle.bh_lint.specs.declared.table.Table.TheVariants as tables
use Rattle.bh_lint.specs.declared.table.Part.{Part}
use Rattle.bh_lint.specs.declared.table.Part.TheVariants as parts
use Rattle.bh_lint.specs.Table.{part_keys, table_path, children}
use Rattle.bh_lint.specs.LookedUp.{is_on, paths_of, is_looked_up}
use Rattle.bh_lint.specs.Findings.{commands_or_none}
use Rattle.bh_lint.specs.Unused.{AreAlikeBeside, settings_of_file, UnusedChangesNothing}
use Rattle.bh_lint.proofs.Any.{other-way, each-more}
use Rattle.bh_lint.proofs.Ways.{under, command_ways, root-within, root-back}
use Rattle.bh_lint.proofs.Listed.{rows, those_at, some-names}
use Rattle.bh_lint.proofs.Agree.{top}

-- Paths that are apart from a place.

-- none of a list passes
none-pass : {X : Type 0} (p : X → Bool) (xs : List X) → list_any p xs ≡ false → AllByRecursion (λ x. p x ≡ false) xs
none-pass p [] h = tt
none-pass p (x ∷ xs) h = let both = or_parts (p x) (list_any p xs) h in (both.0, none-pass p xs both.1)

-- of both parts of a row
front-of : {X : Type 0} (P : X → Type 0) (xs ys : List X) → AllByRecursion P (xs ++ ys) → AllByRecursion P xs
front-of P [] ys h = tt
front-of P (x ∷ xs) ys h = (h.0, front-of P xs ys h.1)

back-of : {X : Type 0} (P : X → Type 0) (xs ys : List X) → AllByRecursion P (xs ++ ys) → AllByRecursion P ys
back-of P [] ys h = h
back-of P (x ∷ xs) ys h = back-of P xs ys h.1

-- of each row
rows-of : {X Y : Type 0} (P : Y → Type 0) (f : X → List Y) (xs : List X) → AllByRecursion P (flat_map f xs) → AllByRecursion (λ x. AllByRecursion P (f x)) xs
rows-of P f [] h = tt
rows-of P f (x ∷ xs) h = (front-of P (f x) (flat_map f xs) h, rows-of P f xs (back-of P (f x) (flat_map f xs) h))

-- of what is given for each
given-of : {X Y : Type 0} (P : Y → Type 0) (f : X → Y) (xs : List X) → AllByRecursion P (map f xs) → AllByRecursion (λ x. P (f x)) xs
given-of P f [] h = tt
given-of P f (x ∷ xs) h = (h.0, given-of P f xs h.1)

both-of : {X : Type 0} (P Q : X → Type 0) (xs : List X) → AllByRecursion P xs → AllByRecursion Q xs → AllByRecursion (λ x. P x × Q x) xs
both-of P Q [] h g = tt
both-of P Q (x ∷ xs) h g = ((h.0, g.0), both-of P Q xs h.1 g.1)

-- a path that is on the place and one more key is on the place, or the longer place is on the path
on-longer : (path place : List (List ℕ)) (key : List ℕ) → is_on path place ≡ false → is_on (place ++ key ∷ []) path ≡ false → is_on path (place ++ key ∷ []) ≡ false
on-longer [] place key h g = absurd (true≢false h)
on-longer (k ∷ path) [] key h g = by (bytes_eq key k) refl path g
  where
    by : (b : Bool) → bytes_eq key k ≡ b → (rest : List (List ℕ)) → (bytes_eq k key && true) ≡ false → (bytes_eq key k && is_on rest []) ≡ false
    by false e rest h = rw e refl
    by true e rest h = absurd (true≢false (rw (other-way k key, e) at h))
on-longer (k ∷ path) (p ∷ place) key h g = by (bytes_eq p k) refl (on-longer path place key)
  where
    by : (b : Bool) → bytes_eq p k ≡ b → (is_on path place ≡ false → is_on (place ++ key ∷ []) path ≡ false → is_on path (place ++ key ∷ []) ≡ false)
        → (bytes_eq p k && is_on path (place ++ key ∷ [])) ≡ false
    by false e later = rw e refl
    by true e later = rw e (later (rw e at h) (rw (other-way k p, e) at g))

-- no path of a property ends at a table, or on the way to it
part-free : (b : Bool) (part : Part) → list_any (λ way. b && is_on way (part_keys part)) command_ways ≡ false
unfolding all
part-free false part = refl
part-free true parts.Whole = refl
part-free true parts.Execution = refl
part-free true parts.Isolation = refl
part-free true parts.Thread = refl
part-free true parts.Semaphore = refl
part-free true parts.Timeout = refl
part-free true parts.Fallback = refl
part-free true parts.FallbackIsolation = refl
part-free true parts.FallbackSemaphore = refl
part-free true parts.Circuit = refl
part-free true parts.Metrics = refl
part-free true parts.Rolling = refl
part-free true parts.Health = refl
part-free true parts.Cache = refl

three-free : (b : Bool) → list_any (λ x. x) ((b && false) ∷ (b && false) ∷ (b && false) ∷ []) ≡ false
three-free true = refl
three-free false = refl

free : (t : Table) → ¬ (t ≡ tables.Service) → (name : List ℕ) (sc : Scope) (n : List ℕ) → list_any (λ path. is_on path (table_path t name)) (under sc n) ≡ false
unfolding all
free tables.Service beside name sc n = absurd (beside refl)
free tables.Root beside name scopes.Group n = refl
free tables.Root beside name scopes.Command n = refl
free tables.Hystrix beside name scopes.Group n = refl
free tables.Hystrix beside name scopes.Command n = refl
free tables.Commands beside name scopes.Group n = refl
free tables.Commands beside name scopes.Command n = refl
free tables.Pools beside name scopes.Group n = refl
free tables.Pools beside name scopes.Command n = refl
free (tables.Command part) beside name scopes.Group n = part-free (bytes_eq name n) part
free (tables.Command part) beside name scopes.Command n = part-free (bytes_eq name n) part
free tables.Pool beside name scopes.Group n = three-free (bytes_eq name n)
free tables.Pool beside name scopes.Command n = refl

-- Values in force of the subjects.

module _ (d e : Data) where
  -- the values in force of a subject are the same
  abbrev pub AreSame : Subject → Type 0
  AreSame s = AllByRecursion (λ p. in_force p s.name d ≡ in_force p s.name e) (properties_of s.scope)

  -- what is looked up under a name
  abbrev LooksSame : List ℕ → List Property → Type 0
  LooksSame n some = AllByRecursion (λ p. look_up (path_of p n) d ≡ look_up (path_of p n) e) some

  looks-force : (n : List ℕ) (some : List Property) → LooksSame n some → LooksSame (codes "default") some → AllByRecursion (λ p. in_force p n d ≡ in_force p n e) some
  looks-force n [] h g = tt
  looks-force n (p ∷ rest) h g = ((λ i. read_given p (option_or (h.0 i) (g.0 i))), looks-force n rest h.1 g.1)

  find-same : (f g : Property → Bool) (some : List Property) → AllByRecursion (λ p. f p ≡ g p) some → find f some ≡ find g some
  find-same f g [] h = refl
  find-same f g (p ∷ rest) h = λ i. cond (h.0 i) (Some p) (find-same f g rest h.1 i)

  faults-same : (fault : Fault) (n : List ℕ) (some : List Property) → AllByRecursion (λ p. in_force p n d ≡ in_force p n e) some
      → AllByRecursion (λ p. is_at_fault fault n d p ≡ is_at_fault fault n e p) some
  faults-same fault n [] h = tt
  faults-same fault n (p ∷ rest) h = (ap (has_fault fault) h.0, faults-same fault n rest h.1)

  values-same : (fault : Fault) (some : List Subject) → AllByRecursion AreSame some → checked_values fault d some ≡ checked_values fault e some
  values-same fault [] h = refl
  values-same fault (s ∷ rest) h =
      λ i. refused_at fault s.name (find-same (is_at_fault fault s.name d) (is_at_fault fault s.name e) (properties_of s.scope) (faults-same fault s.name (properties_of s.scope) h.0) i)
      (values-same fault rest h.1 i)

  -- the values of a command, of which the window is cut into the same buckets
  record CommandSame (n : List ℕ) : Type 0 where
    command : command_in_force d n ≡ command_in_force e n
    whole : has_whole_buckets n d ≡ has_whole_buckets n e

  command-same : (n : List ℕ) (rest : List Property) → AllByRecursion (λ p. in_force p n d ≡ in_force p n e) (of_command ++ rest) → CommandSame n
  unfolding all command_in_force
  command-same n rest h0 =
      let h1 = h0.1 in let h2 = h1.1 in let h3 = h2.1 in let h4 = h3.1 in let h5 = h4.1 in let h6 = h5.1 in let h7 = h6.1 in let h8 = h7.1 in
      let h9 = h8.1 in let h10 = h9.1 in let h11 = h10.1 in let h12 = h11.1 in let h13 = h12.1 in let h14 = h13.1 in let h15 = h14.1 in
      record {
        command = λ i. record {
          strategy = strategy (h0.0 i);
          timeout_ms = number (h1.0 i);
          timeout_on = truth (h2.0 i);
          semaphore = number (h3.0 i);
          fallback_permits = number (h4.0 i);
          fallback_on = truth (h5.0 i);
          circuit_on = truth (h6.0 i);
          volume = number (h7.0 i);
          sleep_ms = number (h8.0 i);
          percent = number (h9.0 i);
          force_open = truth (h10.0 i);
          force_closed = truth (h11.0 i);
          window_ms = number (h12.0 i);
          buckets = number (h13.0 i);
          health_ms = number (h14.0 i);
          cache_on = truth (h15.0 i);
        };
        whole = λ i. number (h12.0 i) % number (h13.0 i) == 0;
      }

  of-scope : (sc : Scope) (n : List ℕ) → AllByRecursion (λ p. in_force p n d ≡ in_force p n e) (properties_of sc) → CommandSame n
  unfolding all
  of-scope scopes.Group n h = command-same n (properties.CoreSize ∷ properties.MaxQueue ∷ properties.QueueThreshold ∷ []) h.1.1
  of-scope scopes.Command n h = command-same n [] h

  windows-same : (some : List Subject) → AllByRecursion AreSame some → checked_windows d some ≡ checked_windows e some
  windows-same [] h = refl
  windows-same (s ∷ rest) h = λ i. cond ((of-scope s.scope s.name h.0).whole i) (windows-same rest h.1 i) (Err (refusals.NotMultiple s.name))

  further-same : (some : Commands) → AllByRecursion AreSame (map (λ c. a_command c.0) some) → map (λ c. command_in_force d c.0) some ≡ map (λ c. command_in_force e c.0) some
  further-same [] h = refl
  further-same (c ∷ rest) h = λ i. (of-scope scopes.Command c.0 h.0).command i ∷ further-same rest h.1 i

  group-same : (commands : Commands) (place : ℕ) (n : List ℕ) → AreSame (a_group n) → AllByRecursion AreSame (those_at commands place)
      → group_in_force d commands place n ≡ group_in_force e commands place n
  unfolding all
  group-same commands place n h further =
      let pool = back-of (λ p. in_force p n d ≡ in_force p n e) of_command (properties.CoreSize ∷ properties.MaxQueue ∷ properties.QueueThreshold ∷ []) h.1.1 in
      let own = (of-scope scopes.Group n h).command in
      let others = further-same (commands_in place commands) further in
      λ i. (
        n,
        record {
          slots = number (h.1.0 i);
          core = number (pool.0 i);
          max_queue = optional_number (pool.1.0 i);
          queue_threshold = number (pool.1.1.0 i);
          commands = own i ∷ others i;
        },
      )

  groups-same : (commands : Commands) (from : ℕ) (names : List (List ℕ)) → AllByRecursion AreSame (rows commands from names)
      → each_from from (group_in_force d commands) names ≡ each_from from (group_in_force e commands) names
  groups-same commands from [] h = refl
  groups-same commands from (n ∷ names) h =
      λ i. group-same commands from n h.0 (front-of AreSame (those_at commands from) (rows commands (from + 1) names) h.1) i
      ∷ groups-same commands (from + 1) names (back-of AreSame (those_at commands from) (rows commands (from + 1) names) h.1) i

  -- What stands under `service`.

  module _ (service : (rest : List (List ℕ)) → look_up (codes "service" ∷ rest) d ≡ look_up (codes "service" ∷ rest) e) where
    names-same : names_of d ≡ names_of e
    names-same = ap (λ o. if_listed (option_and_then if_counted (option_and_then texts (option_and_then as_array o)))) (service (codes "groups" ∷ []))

    commands-same : (names : List (List ℕ)) → commands_of names d ≡ commands_of names e
    commands-same names = ap (λ o. commands_from names [] (entries_of o)) (service (codes "command" ∷ []))

    found : (o : Option Data) → option_and_then (look_up []) o ≡ o
    found None = refl
    found (Some x) = refl

    service-same : (names : List (List ℕ)) → checked_service names d ≡ checked_service names e
    service-same names =
        ap (λ o. let c : Checked = cond (is_service names o) (Ok tt) (Err refusals.UnknownService) in c)
        (sym (found (get (codes "service") d)) ∙ service [] ∙ found (get (codes "service") e))

    in-force-same : (names : List (List ℕ)) (commands : Commands) → AllByRecursion AreSame (subjects names commands) → settings_in_force d names commands ≡ settings_in_force e names commands
    in-force-same names commands h =
        let groups = groups-same commands 0 names h in
        λ i. record {
          groups = groups i;
          audit_steps = optional_number (read_given properties.AuditSteps (option_or (service (codes "auditSteps" ∷ []) i) (service (codes "auditSteps" ∷ []) i)));
          commands = commands;
        }

    commands-settings : (names : List (List ℕ)) (further : Result Commands SettingsError) → AllByRecursion AreSame (subjects names (commands_or_none further))
        → settings_of_commands d names further ≡ settings_of_commands e names further
    commands-settings names (Err refusal) h = refl
    commands-settings names (Ok commands) h =
        λ i. result_and (values-same WrongType (subjects names commands) h i)
        (result_and (values-same OutOfRange (subjects names commands) h i)
        (result_and (windows-same (subjects names commands) h i)
        (Ok (in-force-same names commands h i))))

    groups-settings : (names : List (List ℕ)) → AllByRecursion AreSame (subjects names (commands_or_none (commands_of names d))) → settings_of_groups d names ≡ settings_of_groups e names
    groups-settings names h =
        let further = commands-settings names (commands_of names d) h ∙ ap (settings_of_commands e names) (commands-same names) in
        λ i. result_and (service-same names i) (further i)

    file-settings : (names : List (List ℕ)) → names_of d ≡ Ok names → AllByRecursion AreSame (subjects names (commands_or_none (commands_of names d))) → settings_of_file d ≡ settings_of_file e
    file-settings names is h =
        ap (settings_of_named d) is ∙ groups-settings names h ∙ sym (ap (settings_of_named e) (sym names-same ∙ is))

-- A place that is on no path.

not-service : (names : List (List ℕ)) (commands : Commands) (key : List ℕ) → nat_le 1 (length names) ≡ true → is_looked_up (subjects names commands) (key ∷ []) ≡ false
    → bytes_eq (codes "service") key ≡ false
not-service [] commands key some none = absurd (false≢true some)
not-service (n ∷ names) commands key some none =
    (or_parts (bytes_eq (codes "service") key) (list_any (λ child. bytes_eq child key) (codes "hystrix" ∷ []))
    (sym (top [] (children tables.Root) key n _ root-within (root-back n)) ∙ none)).0

module _ (names : List (List ℕ)) (commands : Commands) (name key : List ℕ) (some : nat_le 1 (length names) ≡ true) where
  place-on : (t : Table) → ¬ (t ≡ tables.Service) → is_looked_up (subjects names commands) (table_path t name ++ key ∷ []) ≡ false
      → (rest : List (List ℕ)) → is_on (table_path t name ++ key ∷ []) (codes "service" ∷ rest) ≡ false
  place-on tables.Service beside none rest = absurd (beside refl)
  place-on tables.Root beside none rest = ap (λ b. b && true) (not-service names commands key some none)
  place-on tables.Hystrix beside none rest = refl
  place-on tables.Commands beside none rest = refl
  place-on tables.Pools beside none rest = refl
  place-on (tables.Command part) beside none rest = refl
  place-on tables.Pool beside none rest = refl

  on-place : (t : Table) → ¬ (t ≡ tables.Service) → is_looked_up (subjects names commands) (table_path t name ++ key ∷ []) ≡ false
      → (rest : List (List ℕ)) → is_on (codes "service" ∷ rest) (table_path t name ++ key ∷ []) ≡ false
  on-place tables.Service beside none rest = absurd (beside refl)
  on-place tables.Root beside none rest = ap (λ b. b && is_on rest []) (other-way key (codes "service") ∙ not-service names commands key some none)
  on-place tables.Hystrix beside none rest = refl
  on-place tables.Commands beside none rest = refl
  on-place tables.Pools beside none rest = refl
  on-place (tables.Command part) beside none rest = refl
  on-place tables.Pool beside none rest = refl

module _ (d e : Data) (t : Table) (beside : ¬ (t ≡ tables.Service)) (name key : List ℕ) (alike : AreAlikeBeside (table_path t name ++ key ∷ []) d e) where
  looks : (sc : Scope) (n : List ℕ) → AllByRecursion (λ path. is_on (table_path t name ++ key ∷ []) path ≡ false) (under sc n)
      → AllByRecursion (λ p. look_up (path_of p n) d ≡ look_up (path_of p n) e) (properties_of sc)
  looks sc n h =
      given-of (λ path. look_up path d ≡ look_up path e) (λ p. path_of p n) (properties_of sc)
      (each-more (λ path. (is_on path (table_path t name) ≡ false) × (is_on (table_path t name ++ key ∷ []) path ≡ false)) (λ path. look_up path d ≡ look_up path e)
      (λ path off. alike path off.1 (on-longer path (table_path t name) key off.0 off.1)) (under sc n)
      (both-of (λ path. is_on path (table_path t name) ≡ false) (λ path. is_on (table_path t name ++ key ∷ []) path ≡ false) (under sc n)
      (none-pass (λ path. is_on path (table_path t name)) (under sc n) (free t beside name sc n)) h))

  subject-same : (s : Subject) → AllByRecursion (λ path. is_on (table_path t name ++ key ∷ []) path ≡ false) (paths_of s) → AreSame d e s
  subject-same s h =
      looks-force d e s.name (properties_of s.scope)
      (looks s.scope s.name (front-of (λ path. is_on (table_path t name ++ key ∷ []) path ≡ false) (under s.scope s.name) (under s.scope (codes "default")) h))
      (looks s.scope (codes "default") (back-of (λ path. is_on (table_path t name ++ key ∷ []) path ≡ false) (under s.scope s.name) (under s.scope (codes "default")) h))

  subjects-same : (some : List Subject) → is_looked_up some (table_path t name ++ key ∷ []) ≡ false → AllByRecursion (AreSame d e) some
  subjects-same some none =
      each-more (λ s. AllByRecursion (λ path. is_on (table_path t name ++ key ∷ []) path ≡ false) (paths_of s)) (AreSame d e) subject-same some
      (rows-of (λ path. is_on (table_path t name ++ key ∷ []) path ≡ false) paths_of some
      (none-pass (is_on (table_path t name ++ key ∷ [])) (flat_map paths_of some) none))

-- whatever stands there, the settings are the same
pub unused_changes_nothing : UnusedChangesNothing
unused_changes_nothing d e names t name key is beside none alike =
    let commands = commands_or_none (commands_of names d) in
    let some = some-names d names is in
    file-settings d e
    (λ rest. alike (codes "service" ∷ rest) (place-on names commands name key some t beside none rest) (on-place names commands name key some t beside none rest))
    names is (subjects-same d e t beside name key alike (subjects names commands) none)
