-- The answer to one line, and the answers that are held before it.
use Rattle.std.proofs.Common.{◌≡◌, ℕ, List, [], ◌++◌, Option, Result, Ok, Err, OnOk, OnErr, refl, sym, ◌∙◌, subst, inl, inr}
use Rattle.std.proofs.KnownBytes.{Appends-nil}
use Rattle.std.specs.Io.KnownBytes.{Appends}
use Rattle.bh_faults.specs.declared.fault.Fault.{Fault}
use Rattle.bh_lines.specs.declared.port_error.PortError.{PortError}
use Rattle.bh_lines.specs.declared.port_error.PortError.TheVariants.{Write, Memory}
use Rattle.bh_replies.specs.FaultLine.{fault_line}
use Rattle.bh_share.specs.declared.share_line.ShareLine.{ShareLine}
use Rattle.bh_streams.specs.Watched.{WritesFront}
use Rattle.bh_desk.specs.Turns.{IsLost, IsPut}
use Rattle.bh_desk.specs.Session.{LineOutcome, Moves}
use Rattle.bh_desk.proofs.Each.{line-lost}

-- all that was held was written, where that went well
pub moves-all : {E : Type 0} (r : Result (Unit {0}) E) (w0 w1 : Option (List ℕ)) (held later : List ℕ) → OnOk r (Appends w0 w1 held) → OnOk r (later ≡ []) → OnOk r (Moves w0 w1 held later)
moves-all (Ok x) w0 w1 held later wrote none = inl (wrote, none)
moves-all (Err e) w0 w1 held later wrote none = tt

-- nothing was written
pub moves-none : (w : Option (List ℕ)) (held : List ℕ) → Moves w w held held
moves-none w held = inr (Appends-nil w, refl)

-- what holds, holds at an error
pub at-error : {E : Type 0} (r : Result (Unit {0}) E) {P : Type 0} → P → OnErr r P
at-error (Ok x) p = tt
at-error (Err e) p = p

-- a faulty line was answered
pub line-faulty : {S : Type 0} (may : S → ShareLine → List ℕ → S → Type 0) (s : S) (w : Option (List ℕ)) (fault : Fault) (held later : List ℕ)
    → later ≡ held ++ fault_line fault → LineOutcome may s s w w (Err fault) held (Ok tt) later
line-faulty may s w fault held later is = (held, moves-none w held, fault_line fault, (refl, refl), is)

-- memory was refused for the answer to a faulty line
pub line-short : {S : Type 0} (may : S → ShareLine → List ℕ → S → Type 0) (s : S) (w : Option (List ℕ)) (asked : Result ShareLine Fault) (held later : List ℕ) (e : PortError)
    → later ≡ held → e ≡ Memory → LineOutcome may s s w w asked held (Err e) later
line-short may s w asked held later e same is =
    subst (λ (k : PortError). LineOutcome may s s w w asked held (Err k) later) (sym is) (inr (Appends-nil w, same), inl refl)

-- a line was answered at once
pub line-answered : {S : Type 0} (may : S → ShareLine → List ℕ → S → Type 0) (old new : S) (w : Option (List ℕ)) (line : ShareLine) (held later : List ℕ)
    → IsPut may old line held new later → LineOutcome may old new w w (Ok line) held (Ok tt) later
line-answered may old new w line held later put = (held, moves-none w held, put.0, put.1, put.2)

-- memory was refused for the answer
pub line-refused : {S : Type 0} (may : S → ShareLine → List ℕ → S → Type 0) (old new : S) (w : Option (List ℕ)) (line : ShareLine) (held later : List ℕ) (e : PortError)
    → IsLost may old line new × (later ≡ held) → e ≡ Memory → LineOutcome may old new w w (Ok line) held (Err e) later
line-refused may old new w line held later e lost is =
    subst (λ (k : PortError). LineOutcome may old new w w (Ok line) held (Err k) later) (sym is) (inr (Appends-nil w, lost.1), line-lost may old new line lost.0)

-- the line has to wait, and what is held before it was not written
pub line-broken : {S : Type 0} (may : S → ShareLine → List ℕ → S → Type 0) (old new : S) (w0 w1 : Option (List ℕ)) (line : ShareLine) (held same later : List ℕ) (e : PortError)
    → (new ≡ old) × (same ≡ held) → WritesFront w0 w1 same → e ≡ Write → LineOutcome may old new w0 w1 (Ok line) held (Err e) later
line-broken may old new w0 w1 line held same later e waits front is =
    subst (λ (k : PortError). LineOutcome may old new w0 w1 (Ok line) held (Err k) later) (sym is)
    (subst (λ (ys : List ℕ). WritesFront w0 w1 ys) waits.1 front, waits.0)

-- it was answered behind what was written
pub line-waited : {S : Type 0} (may : S → ShareLine → List ℕ → S → Type 0) (old mid new : S) (w0 w1 : Option (List ℕ)) (line : ShareLine) (held same empty later : List ℕ)
    → (mid ≡ old) × (same ≡ held) → Appends w0 w1 same → empty ≡ [] → IsPut may mid line empty new later → LineOutcome may old new w0 w1 (Ok line) held (Ok tt) later
line-waited {S} may old mid new w0 w1 line held same empty later waits wrote none put = (
  empty,
  inl (subst (λ (ys : List ℕ). Appends w0 w1 ys) waits.1 wrote, none),
  put.0,
  subst (λ (s : S). may s line put.0 new) waits.0 put.1,
  put.2,
)

-- memory was refused for its answer
pub line-waited-refused : {S : Type 0} (may : S → ShareLine → List ℕ → S → Type 0) (old mid new : S) (w0 w1 : Option (List ℕ)) (line : ShareLine) (held same empty later : List ℕ) (e : PortError)
    → (mid ≡ old) × (same ≡ held) → Appends w0 w1 same → empty ≡ [] → IsLost may mid line new × (later ≡ empty) → e ≡ Memory
    → LineOutcome may old new w0 w1 (Ok line) held (Err e) later
line-waited-refused {S} may old mid new w0 w1 line held same empty later e waits wrote none lost is =
    subst (λ (k : PortError). LineOutcome may old new w0 w1 (Ok line) held (Err k) later) (sym is) (
      inl (subst (λ (ys : List ℕ). Appends w0 w1 ys) waits.1 wrote, lost.1 ∙ none),
      line-lost may old new line (subst (λ (s : S). IsLost may s line new) waits.0 lost.0),
    )
