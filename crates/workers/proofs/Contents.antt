-- The content of a get's act is that with which its key was published.
use Rattle.std.proofs.Common.{◌≡◌, ℕ, zero, suc, Bool, true, false, cond, ◌==◌, List, [], ◌∷◌, ◌++◌, length, Some, refl, sym, ◌∙◌, subst}
use Rattle.keybits.specs.declared.shape.Shape.{Shape}
use Rattle.seqpool.specs.declared.act.Act.{Act}
use Rattle.seqpool.specs.declared.act.Act.TheVariants as acts
use Rattle.seqpool.specs.Pool.{lane_of, IsLegal}
use Rattle.seqpool.specs.Histories.{At, PublishedAt, acts_of}
use Rattle.seqpool.specs.Laws.{GetLaw, OnceLaw}

in-rest : (b : Bool) (x act : Act) (all own : List Act) (k : ℕ) → At (cond b (x ∷ own) own) k act → ((n : ℕ) → At own n act → (i : ℕ) × At all i act) → (i : ℕ) × At (x ∷ all) i act
in-rest true x act all own zero at later = (0, at)
in-rest true x act all own (suc k) at later = let r = later k at in (suc r.0, r.1)
in-rest false x act all own k at later = let r = later k at in (suc r.0, r.1)

-- an act of a lane stands in the history
in-history : (lane : ℕ) (history : List Act) (k : ℕ) (act : Act) → At (acts_of lane history) k act → (i : ℕ) × At history i act
in-history lane [] k act at = absurd (cc at)
in-history lane (x ∷ xs) k act at = in-rest (lane_of x == lane) x act xs (acts_of lane xs) k at (λ n is. in-history lane xs n act is)

at-last : (xs : List Act) (act : Act) → At (xs ++ act ∷ []) (length xs) act
at-last [] act = refl
at-last (x ∷ xs) act = at-last xs act

-- of one act of a history there is one content
one-content : (history : List Act) (i j key : ℕ) (content more : List ℕ) → i ≡ j → PublishedAt history i key content → PublishedAt history j key more → content ≡ more
one-content history i j key content more same (lane, with_ref, at) (other, other_ref, is) =
    let at_j : At history j (acts.Publish lane key content with_ref) = subst (λ (n : ℕ). At history n (acts.Publish lane key content with_ref)) same at in
    let both : Some (acts.Publish lane key content with_ref) ≡ Some (acts.Publish other key more other_ref) = sym at_j ∙ is in
    cc both

-- the content that the reply of a lane's last get has is the one with which the key was published
pub got-content : (get : GetLaw) (once : OnceLaw) (z : Shape) (lane number key j : ℕ) (history before mine : List Act) (content bytes : List ℕ) → IsLegal z history
    → mine ≡ acts_of lane history → mine ≡ before ++ acts.Get number key (Some content) ∷ [] → PublishedAt history j key bytes → bytes ≡ content
got-content get once z lane number key j history before mine content bytes legal own is published =
    let act : Act = acts.Get number key (Some content) in
    let at = in-history lane history (length before) act (subst (λ (xs : List Act). At xs (length before) act) (sym is ∙ own) (at-last before act)) in
    let told = ((get z history legal at.0 number key (Some content) content at.1).0 refl).0 in
    one-content history j told.0 key bytes content (once z history legal j told.0 key bytes content published told.2) published told.2
