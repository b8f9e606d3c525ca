-- What the options among the arguments choose.
use Rattle.std.specs.Prelude.{◌≡◌, ℕ, zero, suc, ◌+◌, Bool, true, false, ◌==◌, ◌&&◌, not, nat_lt, nat_le, if◌then◌else◌, List, [], ◌∷◌, ◌++◌, length, get_or, Option, None, Some, is_none, is_some, unwrap_or, codes}
use Rattle.std.specs.List.{before_first, after_first, fold, position_or_len, slice_split}
use Rattle.std.specs.NonZero.{non_zero_usize_get}
use Rattle.std.specs.Option.{option_and_then, option_map, option_or, option_to_list}
use Rattle.std.specs.Str.{bytes_eq}
use Rattle.simulator_interface.specs.declared.amount.Amount.{Amount}
use Rattle.simulator_interface.specs.declared.amount.Unit.{Unit as Counted}
use Rattle.simulator_interface.specs.declared.amount.Unit.TheVariants.{Keys, Millionths}
use Rattle.simulator_interface.specs.declared.chosen.Chosen.{Chosen}
use Rattle.simulator_interface.specs.declared.chosen.Valued.{Valued}
use Rattle.simulator_interface.specs.declared.chosen.Valued.TheVariants as option
use Rattle.simulator_interface.specs.declared.format.AskedFormat.{AskedFormat}
use Rattle.simulator_interface.specs.declared.format.Columns.{Columns}
use Rattle.simulator_interface.specs.declared.format.FormatName.{FormatName}
use Rattle.simulator_interface.specs.declared.format.FormatName.TheVariants as format
use Rattle.simulator_interface.specs.declared.format.TraceFormat.{TraceFormat}
use Rattle.simulator_interface.specs.declared.format.TraceFormat.TheVariants as trace
use Rattle.simulator_interface.specs.declared.options.Format.{Format}
use Rattle.simulator_interface.specs.declared.options.Format.TheVariants as form
use Rattle.simulator_interface.specs.declared.options.Options.{Options}
use Rattle.simulator_interface.specs.declared.policy.Policy.{Policy}
use Rattle.simulator_interface.specs.declared.policy.Policy.TheVariants as policy
use Rattle.simulator_interface.specs.declared.sample.Sample.{Sample}
use Rattle.simulator_interface.specs.declared.shares.ChosenShares.{ChosenShares}
use Rattle.simulator_interface.specs.Amounts.{amount_in, is_capacity, is_option}
use Rattle.simulator_interface.specs.PolicyNames.{policy_named}
use Rattle.simulator_interface.specs.Sample.{sample_in}

-- what a word names, if it is some word
abbrev pub if_word : {X : Type 0} → List ℕ → List ℕ → X → Option X → Option X
if_word word name named others = if bytes_eq word name then Some named else others

-- the option of a name that takes a value, if it says what is replayed; the shares also have their former name
abbrev pub replay_named : List ℕ → Option Valued
replay_named word =
    if_word word (codes "--policies") option.Policies (if_word word (codes "--shares") option.Shares (if_word word (codes "--policy") option.Shares
    (if_word word (codes "--skip") option.Skip (if_word word (codes "--window") option.Window None))))

-- and if it says how the traces are read
abbrev pub traces_named : List ℕ → Option Valued
traces_named word =
    if_word word (codes "--format") option.Format (if_word word (codes "--column") option.Column (if_word word (codes "--size-column") option.SizeColumn
    (if_word word (codes "--separator") option.Separator (if_word word (codes "--sample") option.Sample None))))

-- the option of a name that takes a value
abbrev pub option_named : List ℕ → Option Valued
option_named word = option_or (replay_named word) (traces_named word)

-- a word that has an equals sign, or a comma
abbrev pub is_equals : ℕ → Bool
is_equals byte = byte == 61

abbrev pub is_comma : ℕ → Bool
is_comma byte = byte == 44

abbrev pub has_byte : (ℕ → Bool) → List ℕ → Bool
has_byte is_it word = nat_lt (position_or_len is_it word) (length word)

-- what an argument sets: an option to a value, or an option that has none
pub data Setting : Type 0 where
  Value : Valued → List ℕ → Setting
  Flag : List ℕ → Setting

-- what an option's word sets by itself; the value after an equals sign is in it, and another one is the next word
abbrev pub option_setting : List ℕ → Option Setting
option_setting word =
    if is_some (option_named word) then None
    else if has_byte is_equals word then option_map (λ named. Value named (after_first is_equals word)) (option_named (before_first is_equals word))
    else Some (Flag word)

-- what a word sets, and the option whose value the next word is; the word may itself be the value of an option before it
abbrev pub setting_in : Option Valued → List ℕ → Option Setting
setting_in (Some before) word = Some (Value before word)
setting_in None word = if is_option word then option_setting word else None

abbrev pub awaited_after : Option Valued → List ℕ → Option Valued
awaited_after (Some before) word = None
awaited_after None word = if is_option word then option_named word else None

-- what words set, in order
abbrev pub settings_from : Option Valued → List (List ℕ) → List Setting
settings_from awaited [] = []
settings_from awaited (word ∷ words) = option_to_list (setting_in awaited word) ++ settings_from (awaited_after awaited word) words

-- the indices of the words that name traces, from an index on
abbrev pub is_name : Option Valued → List ℕ → Bool
is_name (Some before) word = false
is_name None word = not (is_option word) && not (is_capacity word)

abbrev pub names_from : ℕ → Option Valued → List (List ℕ) → List ℕ
names_from index awaited [] = []
names_from index awaited (word ∷ words) = (if is_name awaited word then index ∷ [] else []) ++ names_from (index + 1) (awaited_after awaited word) words

-- the number that a word spells, which is no percentage
abbrev pub counted : Counted → ℕ → Option ℕ
counted Keys number = Some number
counted Millionths number = None

abbrev pub count_of : Amount → Option ℕ
count_of amount = counted amount.unit amount.number

abbrev pub plain_in : List ℕ → Option ℕ
plain_in word = option_and_then count_of (amount_in word)

-- and one that isn't 0
abbrev pub if_some : ℕ → Option ℕ
if_some zero = None
if_some (suc n) = Some (suc n)

abbrev pub positive_in : List ℕ → Option ℕ
positive_in word = option_and_then if_some (plain_in word)

-- the policies that words name with commas between them
abbrev pub policies_named : List (List ℕ) → Option (List Policy)
policies_named [] = Some []
policies_named (name ∷ names) = option_and_then (λ policy. option_map (λ policies. policy ∷ policies) (policies_named names)) (policy_named name)

abbrev pub policies_in : List ℕ → Option (List Policy)
policies_in word = policies_named (slice_split is_comma word)

-- a share after its name and an equals sign; a percentage is above 0 and at most 100
abbrev pub is_share : Counted → ℕ → Bool
is_share Keys number = true
is_share Millionths number = nat_lt 0 number && nat_le number 1000000

abbrev pub share_of : Amount → Option Amount
share_of amount = if is_share amount.unit amount.number then Some amount else None

abbrev pub share_in : List ℕ → List ℕ → Option Amount
share_in name word = if has_byte is_equals word && bytes_eq (before_first is_equals word) name then option_and_then share_of (amount_in (after_first is_equals word)) else None

-- Small's share and the window's, beside the history's, if there is one
abbrev pub both_in : Option Amount → List ℕ → List ℕ → Option ChosenShares
both_in history first second =
    option_and_then (λ small. option_map (λ window. record { small = small; window = window; history = history }) (share_in (codes "window") second))
    (share_in (codes "small") first)

-- in either order
abbrev pub either_in : Option Amount → List ℕ → List ℕ → Option ChosenShares
either_in history first second = option_or (both_in history first second) (both_in history second first)

-- beside a word with the history's share
abbrev pub beside_history : List ℕ → List ℕ → List ℕ → Option ChosenShares
beside_history history first second = option_and_then (λ share. either_in (Some share) first second) (share_in (codes "history") history)

-- three shares, in any order
abbrev pub three_in : List ℕ → List ℕ → List ℕ → Option ChosenShares
three_in first second third =
    option_or (beside_history third first second) (option_or (beside_history second first third) (beside_history first second third))

-- shares with commas between them, in any order: three, or two without the history's
abbrev pub shares_after : List ℕ → List ℕ → Option ChosenShares
shares_after first rest = if has_byte is_comma rest then three_in first (before_first is_comma rest) (after_first is_comma rest) else either_in None first rest

abbrev pub shares_in : List ℕ → Option ChosenShares
shares_in word = if has_byte is_comma word then shares_after (before_first is_comma word) (after_first is_comma word) else None

-- the byte that a word spells: its only one, which is no quote and ends no line, or that of a tab
abbrev pub is_separator : ℕ → Bool
is_separator byte = nat_lt byte 128 && not (byte == 34) && not (byte == 10) && not (byte == 13)

abbrev pub separator_in : List ℕ → Option ℕ
separator_in word = if bytes_eq word (codes "tab") then Some 9 else if (length word == 1) && is_separator (get_or word 0 0) then Some (get_or word 0 0) else None

abbrev pub format_named : List ℕ → Option FormatName
format_named word = if_word word (codes "lines") format.Lines (if_word word (codes "csv") format.Csv (if_word word (codes "oracleGeneral") format.OracleGeneral None))

abbrev pub form_named : List ℕ → Option Format
form_named word = if_word word (codes "--csv") form.Csv (if_word word (codes "--svg") form.Svg (if_word word (codes "--json") form.Json None))

-- what is chosen of the format of the traces, and in all; what isn't chosen is none
pub record ChosenFormat : Type 0 where
  pub name : Option FormatName
  pub column : Option ℕ
  pub size_column : Option ℕ
  pub separator : Option ℕ
  pub has_header : Bool

pub record Choices : Type 0 where
  pub form : Option Format
  pub policies : Option (List Policy)
  pub shares : Option ChosenShares
  pub skipped : Option ℕ
  pub window : Option ℕ
  pub format : ChosenFormat
  pub sample : Option Sample
  pub best_shares : Bool

abbrev pub usual_format : ChosenFormat
usual_format = record { name = None; column = None; size_column = None; separator = None; has_header = true }

abbrev pub nothing : Choices
nothing = record { form = None; policies = None; shares = None; skipped = None; window = None; format = usual_format; sample = None; best_shares = false }

-- what is chosen with one setting more
abbrev pub set_flag : Choices → List ℕ → Choices
set_flag c word =
    if bytes_eq word (codes "--best-shares") then record c { best_shares = true }
    else if bytes_eq word (codes "--no-header") then record c { format = record c.format { has_header = false } }
    else record c { form = form_named word }

abbrev pub set : Choices → Setting → Choices
set c (Value option.Policies value) = record c { policies = policies_in value }
set c (Value option.Shares value) = record c { shares = shares_in value }
set c (Value option.Skip value) = record c { skipped = plain_in value }
set c (Value option.Window value) = record c { window = positive_in value }
set c (Value option.Format value) = record c { format = record c.format { name = format_named value } }
set c (Value option.Column value) = record c { format = record c.format { column = positive_in value } }
set c (Value option.SizeColumn value) = record c { format = record c.format { size_column = positive_in value } }
set c (Value option.Separator value) = record c { format = record c.format { separator = separator_in value } }
set c (Value option.Sample value) = record c { sample = sample_in value }
set c (Flag word) = set_flag c word

-- what words choose
abbrev pub chosen_by : List (List ℕ) → Choices
chosen_by words = fold set nothing (settings_from None words)

-- the format of traces is the one that is named, with the columns that are chosen; without a name it is lines
pub record AreColumns (chosen : ChosenFormat) (columns : Columns) : Type 0 where
  pub key : Some (non_zero_usize_get columns.key) ≡ chosen.column
  pub size : option_map non_zero_usize_get columns.size ≡ chosen.size_column
  pub separator : columns.separator ≡ unwrap_or chosen.separator 44
  pub has_header : columns.has_header ≡ chosen.has_header

abbrev pub IsFormat : Option FormatName → ChosenFormat → TraceFormat → Type 0
IsFormat None chosen format = format ≡ trace.Lines
IsFormat (Some format.Lines) chosen format = format ≡ trace.Lines
IsFormat (Some format.OracleGeneral) chosen format = format ≡ trace.OracleGeneral
IsFormat (Some format.Csv) chosen format = (columns : Columns) × (format ≡ trace.Csv columns) × AreColumns chosen columns

-- the policies that are shown if none is chosen
abbrev pub usual_policies : List Policy
usual_policies = policy.Clock2Q ∷ policy.Sieve ∷ policy.S3Fifo ∷ policy.LeastRecentlyUsed ∷ policy.Optimal ∷ []

-- the fields of the options are what is chosen, or what is usual
pub record AreChosen {A : Type 0} (chosen : Choices) (options : Options A) : Type 0 where
  pub form : options.format ≡ unwrap_or chosen.form form.Table
  pub policies : options.policies.items ≡ unwrap_or chosen.policies usual_policies
  pub shares : options.shares ≡ chosen.shares
  pub skipped : options.skipped ≡ unwrap_or chosen.skipped 0
  pub window : option_map non_zero_usize_get options.window ≡ chosen.window
  pub format : IsFormat chosen.format.name chosen.format options.trace_format
  pub sample : options.sample ≡ chosen.sample
  pub best_shares : options.best_shares ≡ chosen.best_shares

-- what the program has chosen so far, in these terms
abbrev pub format_so_far : AskedFormat → ChosenFormat
format_so_far asked = record {
  name = option_map (λ name. name.value) asked.name;
  column = option_map (λ column. non_zero_usize_get column.value) asked.column;
  size_column = option_map (λ column. non_zero_usize_get column.value) asked.size_column;
  separator = option_map (λ separator. separator.value) asked.separator;
  has_header = is_none asked.no_header;
}

abbrev pub choices_so_far : {A : Type 0} → Chosen A → Choices
choices_so_far chosen = record {
  form = chosen.format;
  policies = option_map (λ policies. policies.items) chosen.policies;
  shares = chosen.shares;
  skipped = chosen.skipped;
  window = option_map non_zero_usize_get chosen.window;
  format = format_so_far chosen.trace_format;
  sample = chosen.sample;
  best_shares = is_some chosen.best_shares;
}
