-- Commands to a handle table: the reply to each, and the lists that it results in.
use Rattle.std.specs.Prelude.{◌≡◌, ℕ, Bool, true, false, List, [], ◌∷◌, Option, Some, None, Result, Ok, Err}
use Rattle.std.specs.List.{find, list_any}
use Rattle.std.specs.declared.vec.Vec.{Vec}
use Rattle.clock2q_handles.specs.Homes.{candidates, listed, with_handle, without_handle, is_entry_of}
use Rattle.clock2q_handles.specs.Layout.{IsTooLong}
use Rattle.clock2q_handles.specs.TableStep.{grown, reserved, IsFull, IsShortOf, IsPastSize, IsHashOf}
use Rattle.clock2q_handles.specs.declared.error.TableError.{TableError}
use Rattle.clock2q_handles.specs.declared.error.TableError.TheVariants.{Memory, Size, RunTooLong}
use Rattle.clock2q_table_commands.specs.declared.table_commands.TableCommand.{TableCommand}
use Rattle.clock2q_table_commands.specs.declared.table_commands.TableCommand.TheVariants.{Insert, Remove, Find, Reserve, Get}
use Rattle.clock2q_table_commands.specs.declared.table_commands.TableReply.{TableReply}
use Rattle.clock2q_table_commands.specs.declared.table_commands.TableReply.TheVariants.{Done, Removed, Found, Handles, Refused}

-- a call on a handle returns nothing but its key, and that is a hash of each entry that holds the handle
pub record IsHashing {H : Type 0} (returns : H → ℕ → Type 0) (key : H → ℕ) (homes : List (List (ℕ × H))) : Type 0 where
  pub one : (handle : H) (hash : ℕ) → returns handle hash → hash ≡ key handle
  pub hashes : IsHashOf key homes

-- an outcome as a reply
abbrev pub reply_of : {H L : Type 0} → Result (Unit {0}) TableError → TableReply H L
reply_of (Ok done) = Done
reply_of (Err refusal) = Refused refusal

-- the result of a lookup with insertion, as a reply
abbrev pub reply_of_found : {H L : Type 0} → Result (H × Bool) TableError → TableReply H L
reply_of_found (Ok found) = Found found.0 found.1
reply_of_found (Err refusal) = Refused refusal

-- the first of the handles that equals one of those accepted
abbrev pub first_accepted : {H : Type 0} → (H → H → Bool) → List H → List H → Option H
first_accepted eq accepted handles = find (λ h. list_any (λ a. eq a h) accepted) handles

module _ {H A : Type 0} (eq : H → H → Bool) (key : H → ℕ) where
  -- a full table grows, and v is last in the home of its hash, if that makes no run too long
  abbrev pub RepliesToInsert : H → List (List (ℕ × H)) → TableReply H (Vec H A) → List (List (ℕ × H)) → Type 0
  RepliesToInsert v old Done new = (new ≡ with_handle (grown key old) (key v) v) × (IsTooLong new → ⊥)
  RepliesToInsert v old (Refused RunTooLong) new = (new ≡ grown key old) × IsTooLong (with_handle (grown key old) (key v) v)
  RepliesToInsert v old (Refused Memory) new = (new ≡ old) × IsFull old
  RepliesToInsert v old reply new = ⊥

  -- a full table grows, and the reply is the first candidate that is accepted, or v, which is inserted
  abbrev pub RepliesToFind : H → List H → List (List (ℕ × H)) → TableReply H (Vec H A) → List (List (ℕ × H)) → Type 0
  RepliesToFind v accepted old (Found c false) new = (first_accepted eq accepted (candidates (grown key old) (key v)) ≡ Some c) × (new ≡ grown key old)
  RepliesToFind v accepted old (Found c true) new = (first_accepted eq accepted (candidates (grown key old) (key v)) ≡ None) × (c ≡ v) × RepliesToInsert v old Done new
  RepliesToFind v accepted old (Refused RunTooLong) new = (first_accepted eq accepted (candidates (grown key old) (key v)) ≡ None) × RepliesToInsert v old (Refused RunTooLong) new
  RepliesToFind v accepted old (Refused Memory) new = (new ≡ old) × IsFull old
  RepliesToFind v accepted old reply new = ⊥

  -- the first candidate of x that equals v is removed, if there is one, and the reply says whether there was
  abbrev pub RepliesToRemove : ℕ → H → List (List (ℕ × H)) → TableReply H (Vec H A) → List (List (ℕ × H)) → Type 0
  RepliesToRemove x v old (Removed was) new = (was ≡ list_any (is_entry_of eq x v) (listed old x)) × (new ≡ without_handle eq old x v)
  RepliesToRemove x v old reply new = ⊥

  -- there is room for n more entries, if they can be counted
  abbrev pub RepliesToReserve : ℕ → List (List (ℕ × H)) → TableReply H (Vec H A) → List (List (ℕ × H)) → Type 0
  RepliesToReserve n old Done new = (new ≡ reserved key old n) × (IsPastSize old n → ⊥)
  RepliesToReserve n old (Refused Size) new = (new ≡ old) × IsPastSize old n
  RepliesToReserve n old (Refused Memory) new = (new ≡ old) × IsShortOf old n
  RepliesToReserve n old reply new = ⊥

  -- the candidates of x are the reply, and nothing changes
  abbrev pub RepliesToGet : ℕ → List (List (ℕ × H)) → TableReply H (Vec H A) → List (List (ℕ × H)) → Type 0
  RepliesToGet x old (Handles handles) new = (handles.items ≡ candidates old x) × (new ≡ old)
  RepliesToGet x old (Refused Memory) new = new ≡ old
  RepliesToGet x old reply new = ⊥

  -- the reply to a command, and the lists that it results in
  abbrev pub IsReplied : TableCommand H (Vec H A) → List (List (ℕ × H)) → TableReply H (Vec H A) → List (List (ℕ × H)) → Type 0
  IsReplied (Insert v) = RepliesToInsert v
  IsReplied (Remove x v) = RepliesToRemove x v
  IsReplied (Find v accepted) = RepliesToFind v accepted.items
  IsReplied (Reserve n) = RepliesToReserve n
  IsReplied (Get x) = RepliesToGet x

  -- the replies to commands, each of which starts from the lists that the one before results in
  abbrev pub AreReplied : List (TableCommand H (Vec H A)) → List (List (ℕ × H)) → List (TableReply H (Vec H A)) → List (List (ℕ × H)) → Type 0
  AreReplied [] old [] new = new ≡ old
  AreReplied (command ∷ commands) old (reply ∷ replies) new = (next : List (List (ℕ × H))) × IsReplied command old reply next × AreReplied commands next replies new
  AreReplied commands old replies new = ⊥
