-- Lists whose elements go together.
use Rattle.std.proofs.Common.{◌≡◌, ℕ, zero, suc, Bool, List, [], ◌∷◌, ◌++◌, length, arith, refl, sym, ap, ◌∙◌, subst, append_assoc}
use Rattle.std.specs.Prelude.{Some, slice_get, unwrap_or}
use Rattle.std.proofs.lemmas.Option.{slice_get_within}
use Rattle.shardpool.specs.Tokens.{PoolOf}
use Rattle.workers.specs.declared.jobs.Job.{Job}
use Rattle.workers.specs.declared.jobs.Done.{Done}
use Rattle.workers.specs.declared.begun.Begun.{Begun}
use Rattle.workers.specs.Works.{MayWork, MayBegin, Answer, Answers}
use Rattle.workers.specs.Begins.{Pairs, job_of, Holds, AllHold, IsBegun, IsFinished}

-- one pair more at the end
pub pairs-add : {A B : Type 0} (R : A → B → Type 0) (xs : List A) (ys : List B) (x : A) (y : B) → Pairs R xs ys → R x y
    → Pairs R (xs ++ x ∷ []) (ys ++ y ∷ [])
pairs-add R [] [] x y all one = (one, tt)
pairs-add R [] (b ∷ ys) x y all one = absurd all
pairs-add R (a ∷ xs) [] x y all one = absurd all
pairs-add R (a ∷ xs) (b ∷ ys) x y all one = (all.0, pairs-add R xs ys x y all.1 one)

pub pairs-length : {A B : Type 0} (R : A → B → Type 0) (xs : List A) (ys : List B) → Pairs R xs ys → length ys ≡ length xs
pairs-length R [] [] all = refl
pairs-length R [] (b ∷ ys) all = absurd all
pairs-length R (a ∷ xs) [] all = absurd all
pairs-length R (a ∷ xs) (b ∷ ys) all = ap suc (pairs-length R xs ys all.1)

-- what was the first of the rest ends what was before it
pub next-first : {A : Type 0} (all before rest more : List A) (x : A) → all ≡ before ++ rest → rest ≡ x ∷ more
    → all ≡ (before ++ x ∷ []) ++ more
next-first all before rest more x whole is = whole ∙ (ap (λ r. before ++ r) is ∙ sym (append_assoc before (x ∷ []) more))

-- of jobs that may begin the first may work, and the others may begin
pub may-first : (pool : PoolOf) (jobs more : List Job) (job : Job) → jobs ≡ job ∷ more → MayBegin pool jobs
    → MayWork pool job.lane × MayBegin pool more
may-first pool jobs more job is may =
    let all : MayBegin pool (job ∷ more) = subst (λ (l : List Job). MayBegin pool l) is may in
    (all 0 job refl, λ index j at. all (suc index) j at)

module _ {G : Type 0} (says : G → ℕ → ℕ → Bool → Type 0) where
  pub holds-first : (all more : List (Begun G)) (begun : Begun G) → all ≡ begun ∷ more → AllHold says all → Holds says begun × AllHold says more
  holds-first all more begun is held = subst (λ (l : List (Begun G)). AllHold says l) is held

  module _ (gate : G) where
    -- what was begun holds
    pub all-hold : (jobs : List Job) (begun : List (Begun G)) → Pairs (IsBegun says gate) jobs begun → AllHold says begun
    all-hold [] [] all = tt
    all-hold [] (b ∷ begun) all = absurd all
    all-hold (j ∷ jobs) [] all = absurd all
    all-hold (j ∷ jobs) (b ∷ begun) all = (all.0.2, all-hold jobs begun all.1)

    -- what was begun of the jobs, and what came of it
    answer-each : (jobs : List Job) (begun : List (Begun G)) (dones : List Done) → Pairs (IsBegun says gate) jobs begun → Pairs (IsFinished says) begun dones
        → (index : ℕ) (job : Job) (done : Done) → slice_get jobs index ≡ Some job → slice_get dones index ≡ Some done → Answer (says gate) job done
    answer-each [] begun dones starts ends index job done is at = let within = slice_get_within [] index job is in absurd (omega arith)
    answer-each (j ∷ jobs) [] dones starts ends index job done is at = absurd starts
    answer-each (j ∷ jobs) (b ∷ begun) [] starts ends index job done is at = absurd ends
    answer-each (j ∷ jobs) (b ∷ begun) (d ∷ dones) starts ends zero job done is at =
        let same : j ≡ job = ap (λ o. unwrap_or o job) is in
        let here : d ≡ done = ap (λ o. unwrap_or o done) at in
        subst (λ (x : Done). Answer (says gate) job x) here (subst (λ (x : Job). Answer (says gate) x d) (starts.0.0 ∙ same)
        (subst (λ (x : G). Answer (says x) (job_of b) d) starts.0.1 ends.0))
    answer-each (j ∷ jobs) (b ∷ begun) (d ∷ dones) starts ends (suc index) job done is at =
        answer-each jobs begun dones starts.1 ends.1 index job done is at

    pub answers-of : (jobs : List Job) (begun : List (Begun G)) (dones : List Done) → Pairs (IsBegun says gate) jobs begun → Pairs (IsFinished says) begun dones
        → Answers (says gate) jobs dones
    answers-of jobs begun dones starts ends = record {
      count = pairs-length (IsFinished says) begun dones ends ∙ pairs-length (IsBegun says gate) jobs begun starts;
      each = answer-each jobs begun dones starts ends;
    }
