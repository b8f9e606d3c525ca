-- What the parser returns, compared with what the text spells.
use Rattle.std.specs.Prelude.{List, map, ◌≡◌, ◌<◌, ℕ, Option, Some, None, IsSome, Result, Ok, Err}
use Rattle.std.specs.Option.{option_and_then, option_map}
use Rattle.std.specs.NonZero.{non_zero_usize_get}
use Rattle.std.specs.declared.num.NonZeroUsize.{NonZeroUsize}
use Rattle.clock2q_machine.specs.Shares.{Shares, usual_shares}
use Rattle.clock2q_machine.specs.Policies.{shares_of, shares_with}
use Rattle.clock2q_text.specs.Commands.{call_of}
use Rattle.clock2q_text.specs.Text.{Script, number_of, all_read, chosen_from}
use Rattle.clock2q_text.specs.declared.commands.Command.{Command}
use Rattle.clock2q_text.specs.declared.text.ChosenShares.{ChosenShares}
use Rattle.clock2q_text.specs.declared.serve_error.ServeError.{ServeError}
use Rattle.clock2q_text.specs.declared.serve_error.ServeError.TheVariants.{BadLine, Memory, Capacity, Policy, Read, Write}

-- the refusal is the text's first bad line; or memory ran out, and no bad line comes before the third
abbrev pub Refuses : {Y : Type 0} → ServeError → Result Y ℕ → Type 0
Refuses (BadLine line) spelled = spelled ≡ Err line
Refuses Memory spelled = (line : ℕ) → spelled ≡ Err line → 2 < line
Refuses Capacity spelled = ⊥
Refuses Policy spelled = ⊥
Refuses Read spelled = ⊥
Refuses Write spelled = ⊥

-- what was parsed, seen by `view`, is what the text spells, and so is a bad line
abbrev pub Parses : {X Y : Type 0} → (X → Y) → Result X ServeError → Result Y ℕ → Type 0
Parses view (Ok x) spelled = spelled ≡ Ok (view x)
Parses view (Err refusal) spelled = Refuses refusal spelled

-- a capacity with Small's share and a window, and with the usual history or one of its own
abbrev pub with_history : ℕ → ℕ → ℕ → Option ℕ → Shares
with_history capacity small window None = shares_of capacity small window
with_history capacity small window (Some history) = shares_with capacity small window history

-- a capacity with chosen shares
abbrev pub chosen_value : ℕ → ChosenShares → Shares
chosen_value capacity chosen = with_history capacity chosen.small chosen.window chosen.history

-- a capacity with shares of its own, or with the usual ones
abbrev pub shares_value : NonZeroUsize → Option ChosenShares → Shares
shares_value capacity None = usual_shares (non_zero_usize_get capacity)
shares_value capacity (Some chosen) = chosen_value (non_zero_usize_get capacity) chosen

-- what was read is what the words after a capacity choose, whatever the capacity
abbrev pub Chooses : Option ChosenShares → List (List ℕ) → Type 0
Chooses read words = (capacity : ℕ) → option_map (chosen_value capacity) read ≡ option_and_then (chosen_from capacity) (all_read number_of words)

-- what the first line and the others spell, as the script that they are
abbrev pub script_value : {A : Type 0} → Shares → List (Command ℕ ℕ A) → Script
script_value shares commands = record { shares = shares; calls = map call_of commands }

-- nothing is spelled; or what was read, seen by `view`, is; or there was no memory for its list
abbrev pub Spells : {X Y E : Type 0} → (X → Y) → Option (Result X E) → Option Y → Type 0
Spells view None spelled = spelled ≡ None
Spells view (Some (Ok x)) spelled = spelled ≡ Some (view x)
Spells view (Some (Err e)) spelled = IsSome spelled
