-- What an offer of a hash's candidates promises of the table.
use Rattle.std.proofs.Common.{◌≡◌, ℕ, ◌+◌, ◌≤◌, Bool, refl, subst, arith, List, Option, Result, IfErr}
use Rattle.std.specs.Fn.{Mut}
use Rattle.clock2q_handles.specs.Candidates.{EndsAt, left_from, unread_from}
use Rattle.clock2q_handles.specs.Changes.{IsLaidOut, OnlyReads}
use Rattle.clock2q_handles.specs.Homes.{candidates}
use Rattle.clock2q_handles.specs.Layout.{Placed, homes_of, walk}
use Rattle.clock2q_handles.specs.Offers.{Offers, handle_in}
use Rattle.clock2q_handles.specs.Positions.{GapValue}
use Rattle.clock2q_handles.specs.Table.{IsTable}
use Rattle.clock2q_handles.specs.TableStep.{TableValue, table_value}
use Rattle.clock2q_handles.proofs.Promises.{if_err}
use Rattle.clock2q_handles.proofs.shifts.Steps.{table-laid}
use Rattle.clock2q_handles.proofs.walks.Yields.{left_at_start}

module _ {M H : Type 0} (g : Mut M (H × Unit {0}) Bool) (f last : M) (x : ℕ) (result : Result (H × ℕ) GapValue) where
  -- the clauses of offer
  abbrev pub OffersAll : TableValue H → TableValue H → Type 0
  OffersAll old new = record {
    offers : Offers g f (candidates old.homes x) (handle_in result) last;
    gap : IfErr result (λ gap. EndsAt old.slots x gap.mark gap.position);
    read : OnlyReads (walk old.homes x) old new;
    read_all : IfErr result (λ _. new.reads ≡ old.reads + walk old.homes x);
    laid : IsLaidOut new;
  }

  pub offers_all : (slots : List (Option (Placed (ℕ × H)))) (len : ℕ) → IsTable slots len → (w r r' : ℕ) → Offers g f (left_from slots x 0) (handle_in result) last
      → IfErr result (λ gap. EndsAt slots x gap.mark gap.position) → r ≤ r' → r' ≤ r + unread_from slots x 0 → IfErr result (λ _. r' ≡ r + unread_from slots x 0)
      → OffersAll (table_value (homes_of slots) slots w r) (table_value (homes_of slots) slots w r')
  offers_all slots len table w r r' offers ends more within all = record {
    offers = subst (λ hs. Offers g f hs (handle_in result) last) (left_at_start slots x) offers;
    gap = ends;
    read = (refl, (more, omega (arith, within)));
    read_all = if_err result (λ _ e. omega (arith, e)) all;
    laid = table-laid slots len table w r';
  }
