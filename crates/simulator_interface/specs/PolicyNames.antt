-- The names of the policies, by which arguments choose them.
use Rattle.std.specs.Prelude.{ℕ, Bool, true, false, List, Option, None, Some, if◌then◌else◌, codes}
use Rattle.std.specs.Str.{bytes_eq}
use Rattle.simulator_interface.specs.declared.policy.Policy.{Policy}
use Rattle.simulator_interface.specs.declared.policy.Policy.TheVariants.{Clock2Q, Sieve, S3Fifo, LeastRecentlyUsed, Optimal, FirstInFirstOut, Clock, Arc, TwoQ, Lirs, Lru2, WTinyLfu}

abbrev pub name_of : Policy → List ℕ
name_of Clock2Q = codes "clock2q"
name_of Sieve = codes "sieve"
name_of S3Fifo = codes "s3fifo"
name_of LeastRecentlyUsed = codes "lru"
name_of Optimal = codes "opt"
name_of FirstInFirstOut = codes "fifo"
name_of Clock = codes "clock"
name_of Arc = codes "arc"
name_of TwoQ = codes "2q"
name_of Lirs = codes "lirs"
name_of Lru2 = codes "lru2"
name_of WTinyLfu = codes "wtinylfu"

-- a policy, if a word is its name
abbrev pub if_named : List ℕ → Policy → Option Policy → Option Policy
if_named word policy others = if bytes_eq word (name_of policy) then Some policy else others

-- the policy of a name
abbrev pub policy_named : List ℕ → Option Policy
policy_named word =
    if_named word Clock2Q (if_named word Sieve (if_named word S3Fifo (if_named word LeastRecentlyUsed (if_named word Optimal (if_named word FirstInFirstOut
    (if_named word Clock (if_named word Arc (if_named word TwoQ (if_named word Lirs (if_named word Lru2 (if_named word WTinyLfu None)))))))))))

-- the policies that are defined over keys of unequal sizes, in a cache for a number of bytes
abbrev pub has_bytes : Policy → Bool
has_bytes Clock2Q = true
has_bytes Sieve = true
has_bytes S3Fifo = true
has_bytes LeastRecentlyUsed = true
has_bytes FirstInFirstOut = true
has_bytes Clock = true
has_bytes _ = false
