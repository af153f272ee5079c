-- The calls of a lender clear no key.
use Rattle.std.proofs.Common.{◌≡◌, ℕ, Bool, true, false, List, [], Option, Some, None, Result, Ok, Err, ⊎_elim, refl, sym, ap, ◌∙◌, subst}
use Rattle.std.specs.Prelude.{IfOk, IfSome}
use Rattle.seqpool.specs.Pool.{IsLegal}
use Rattle.seqpool.specs.Histories.{PublishedAt}
use Rattle.seqpool.specs.Laws.{ContentLaw}
use Rattle.poolsteps.proofs.ViewLemmas.{prefix-self, prefix-trans}
use Rattle.shardpool.specs.Tokens.{PoolOf, LaneOf, RefOf}
use Rattle.shardpool.specs.AfterCalls.{AfterGet, AfterRelease}
use Rattle.shardpool.specs.Loans.{LoanOf}
use Rattle.poollaws.specs.Cleared.{cleared_by}
use Rattle.poollaws.proofs.Clearing.{get-none, release-none}
use Rattle.lendings.specs.declared.refusal.Refusal.{Refusal}
use Rattle.lendings.specs.declared.refusal.Refusal.TheVariants.{References, Memory, Owners}
use Rattle.lendings.specs.Lenders.{LenderOf, GoesOnQuietly}
use Rattle.lendings.specs.Owners.{OwnedOf, ShowsKey}
use Rattle.lendings.specs.Owning.{Lacks, HasOut, IsOwned, Ended}

pub quiet-same : {old new : LaneOf} → new ≡ old → GoesOnQuietly old new
quiet-same {old} {new} is = subst (λ (lane : LaneOf). GoesOnQuietly old lane) (sym is) (record { seen = prefix-self old.book.seen; cleared = refl })

pub quiet-then : {old middle new : LaneOf} → GoesOnQuietly old middle → GoesOnQuietly middle new → GoesOnQuietly old new
quiet-then {old} {middle} {new} one two = record { seen = prefix-trans _ _ _ one.seen two.seen; cleared = two.cleared ∙ one.cleared }

module _ {T : Type 0} (pool : PoolOf) (key : ℕ) where
  quiet-get : (old new : LaneOf) (result : Option RefOf) → AfterGet T pool key old new result → GoesOnQuietly old new
  quiet-get old new result after = record { seen = after.seen; cleared = get-none pool key old new result after }

  pub quiet-release : (old new : LaneOf) → AfterRelease T pool key old new → GoesOnQuietly old new
  quiet-release old new after = record { seen = after.seen; cleared = release-none pool key old new after }

  module _ (content : T → List ℕ) (room : T → ℕ) (old new : LenderOf T) where
    quiet-lender : new ≡ old → GoesOnQuietly old.lane new.lane
    quiet-lender is = quiet-same (ap (λ (l : LenderOf T). l.lane) is)

    lacks : Lacks content room pool key old new → GoesOnQuietly old.lane new.lane
    lacks (loans, did) = ⊎_elim (λ same. quiet-same same)
        (λ both. quiet-then (quiet-get old.lane both.0 _ both.1) (quiet-release both.0 new.lane both.2)) did

    has-out : (loan : LoanOf T) → HasOut content room pool key old new loan → GoesOnQuietly old.lane new.lane
    has-out loan (out, did) = ⊎_elim (λ same. quiet-lender same) (λ begun. quiet-get old.lane new.lane _ begun.1.0) did

    pub quiet-own : (result : Result (Option (OwnedOf T)) Refusal) → IsOwned content room pool key old new result → GoesOnQuietly old.lane new.lane
    quiet-own (Ok (Some owned)) is = has-out owned.loan is.1
    quiet-own (Ok None) missed = quiet-get old.lane new.lane _ missed.1.0
    quiet-own (Err References) refused = quiet-lender refused.1
    quiet-own (Err Memory) refused = lacks refused.1
    quiet-own (Err Owners) (loan, out) = has-out loan out

    pub quiet-ended : (ended : Bool) → Ended content room pool key old new ended → GoesOnQuietly old.lane new.lane
    quiet-ended true is = quiet-release old.lane new.lane is.4
    quiet-ended false is = quiet-same is.3

    -- a key has one content: what is published under it is what the share shows
    pub owned-shows : ContentLaw → IsLegal new.lane.shape new.lane.book.seen → (result : Result (Option (OwnedOf T)) Refusal)
        → IsOwned content room pool key old new result → IfOk result (λ found. IfSome found (ShowsKey content key new.lane))
    owned-shows law legal (Ok (Some owned)) is =
        let out = is.1.0 in let lent = out.lent in record {
          under = out.under;
          share = lent.share;
          share_is = lent.share_is;
          shows = λ bytes published. law new.lane.shape new.lane.book.seen legal lent.shows.0 published.0 key _ _
              (subst (λ (k : ℕ). PublishedAt new.lane.book.seen lent.shows.0 k (content lent.share.object)) out.under lent.shows.1) published.1;
        }
    owned-shows law legal (Ok None) is = tt
    owned-shows law legal (Err refusal) is = tt
