-- One loan more ended, or stayed.
use Rattle.std.proofs.Common.{◌≡◌, ◌≢◌, ◌+◌, ◌≤◌, ℕ, Bool, true, false, arith, if◌then◌else◌, List, [], ◌∷◌, ◌++◌, refl, sym, ◌∙◌, subst}
use Rattle.std.proofs.lemmas.List.Elements.{All-head, All-tail}
use Rattle.std.proofs.lemmas.List.Sorted.{IsPermutation-refl, IsPermutation-trans, IsPermutation-append_right, IsPermutation-middle}
use Rattle.shardpool.specs.Tokens.{PoolOf, LaneOf}
use Rattle.shardpool.specs.Lanes.{Owns, SameLane}
use Rattle.shardpool.specs.AfterCalls.{AfterRelease}
use Rattle.shardpool.specs.Loans.{LoanOf, KeepsOtherLoans}
use Rattle.lendings.specs.Lenders.{LenderOf}
use Rattle.lendings.specs.Owning.{Ended}
use Rattle.lendings.specs.Sweeps.{Sweeps}
use Rattle.lendings.proofs.Quiet.{quiet-same, quiet-then, quiet-release}

module _ {T : Type 0} (content : T → List ℕ) (room : T → ℕ) (pool : PoolOf) where
  pub same-then : (old middle new : LaneOf) → SameLane old middle → SameLane middle new → SameLane old new
  same-then old middle new a b = (b.0 ∙ a.0, b.1 ∙ a.1, b.2 ∙ a.2, b.3 ∙ a.3)

  pub sweeps-none : (old : LenderOf T) → Owns pool old.lane → Sweeps content room pool old old
  sweeps-none old owns = record {
    owns = owns;
    same = (refl, refl, refl, refl);
    quiet = quiet-same refl;
    back = [];
    loans = IsPermutation-refl old.loans;
    gave = refl;
    kept = λ loan none lent. lent;
  }

  pub sweeps-ended : (old middle new : LenderOf T) (key : ℕ) → Sweeps content room pool old middle → Ended content room pool key middle new true → Owns pool new.lane
      → SameLane middle.lane new.lane → KeepsOtherLoans content room key middle.lane new.lane → Sweeps content room pool old new
  sweeps-ended old middle new key sweeps ended owns same kept =
      let loan = ended.0 in record {
        owns = owns;
        same = same-then old.lane middle.lane new.lane sweeps.same same;
        quiet = quiet-then sweeps.quiet (quiet-release pool key middle.lane new.lane ended.4);
        back = loan ∷ sweeps.back;
        loans = IsPermutation-trans old.loans (sweeps.back ++ middle.loans) ((loan ∷ sweeps.back) ++ new.loans) sweeps.loans
            (IsPermutation-trans (sweeps.back ++ middle.loans) (sweeps.back ++ loan ∷ new.loans) (loan ∷ (sweeps.back ++ new.loans))
            (IsPermutation-append_right sweeps.back middle.loans (loan ∷ new.loans) ended.2)
            (IsPermutation-middle sweeps.back loan new.loans));
        gave = (middle.lane, sweeps.gave, subst (λ (k : ℕ). AfterRelease T pool k middle.lane new.lane) (sym ended.1) ended.4);
        kept = λ other none lent.
            let P = λ (one : LoanOf T). one.key ≢ other.key in
            kept other (λ same_key. All-head P loan sweeps.back none (ended.1 ∙ sym same_key)) (sweeps.kept other (All-tail P loan sweeps.back none) lent);
      }

  pub sweeps-stayed : (old middle new : LenderOf T) (key : ℕ) → Sweeps content room pool old middle → Ended content room pool key middle new false → Sweeps content room pool old new
  sweeps-stayed old middle new key sweeps ended =
      subst (λ (lane : LaneOf). Sweeps content room pool old (record { lane = lane; loans = new.loans })) (sym ended.3)
      (record {
        owns = sweeps.owns;
        same = sweeps.same;
        quiet = sweeps.quiet;
        back = sweeps.back;
        loans = IsPermutation-trans old.loans (sweeps.back ++ middle.loans) (sweeps.back ++ new.loans) sweeps.loans
            (IsPermutation-append_right sweeps.back middle.loans new.loans ended.2);
        gave = sweeps.gave;
        kept = sweeps.kept;
      })

  -- whether it ended or not
  pub sweeps-tried : (old middle new : LenderOf T) (key : ℕ) (ended : Bool) → Sweeps content room pool old middle → Ended content room pool key middle new ended → Owns pool new.lane
      → SameLane middle.lane new.lane → KeepsOtherLoans content room key middle.lane new.lane → Sweeps content room pool old new
  sweeps-tried old middle new key true sweeps tried owns same kept = sweeps-ended old middle new key sweeps tried owns same kept
  sweeps-tried old middle new key false sweeps tried owns same kept = sweeps-stayed old middle new key sweeps tried

pub few-less : (ended : Bool) (new old : ℕ) → new + (if ended then 1 else 0) ≡ old → (old ≤ new + 1) × (new ≤ old)
few-less true new old is = (omega (arith, is), omega (arith, is))
few-less false new old is = (omega (arith, is), omega (arith, is))
