-- Which help text the arguments ask for.
use Rattle.std.specs.Prelude.{ℕ, Bool, ◌||◌, if◌then◌else◌, List, [], ◌∷◌, get_or, Option, None, Some, codes}
use Rattle.std.specs.Str.{bytes_eq}
use Rattle.simulator_interface.specs.declared.help.TheConstants.{HELP, FORMATS_HELP, POLICIES_HELP}

-- whether a word asks for help
abbrev pub is_help : List ℕ → Bool
is_help word = bytes_eq word (codes "-h") || bytes_eq word (codes "--help")

-- the text on a subject, or the general one if the word is none
unfoldable pub help_on : List ℕ → List ℕ
help_on word = if bytes_eq word (codes "formats") then FORMATS_HELP.now else if bytes_eq word (codes "policies") then POLICIES_HELP.now else HELP.now

-- the text on the subject that comes after the first word that asks for help
abbrev pub asked_help : List (List ℕ) → Option (List ℕ)
asked_help [] = None
asked_help (word ∷ words) = if is_help word then Some (help_on (get_or words 0 [])) else asked_help words
