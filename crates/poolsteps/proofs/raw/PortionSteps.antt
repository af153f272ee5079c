-- The ghost steps of a portion: a cell is lent, and its portions are cut, compared, merged and, once all are there, ended. Assumes `Logic`.
use Rattle.std.proofs.Common.{◌≡◌, ℕ, ◌+◌, ◌-◌, ◌^◌, ◌<◌, ◌≤◌, Bool, true, false, ◌||◌, [], ◌∷◌, refl, arith}
use seplogic.Ra.Ura.{Ura}
use base.Fraction.{full_share}
use base.FractionLaws.{Counts, counts_some, Counts-op, Counts-all}
use base.Logic.{ent, sep, wand, upd_i, via, fst∗, snd∗, id⊢, apply∗}
use base.Before.{before}
use base.Fml.{Lft, Incl, Incl-trans, Share, Fml, ftrue, fsep, fseps, fex, fwand, fupd, fdead, fbor, flft, fres}
use contract.BorrowLft.{meet_⊑_left, meet_⊑_right}
use contract.Monad.{fact, fact_mono, conj_i}
use ghost.Rules.{span, thinned}
use types.Logic.{Logic, sem, lfts}
use types.Kit.{‵, raw, ◌⊛◌, some as exists, later, ◌$◌, ◌∵◌, !, qed, by, move, keep, use1, use2, split, split3, join, fsplit, fsplit3, fjoin, fjoin3, fpick, fpack, pick, assume, suffices, await, updating, now, done}
use types.Tokens.{lft_new, lft_end, bor_new, lent_back, bor_open, obor_alter, bor_fracture, one_token, name_new, name_set, res_dup}
use denote.RattleType.{RattleType}
use denote.RawPtr.{Ptr, InBlock}
use denote.Sharing.{ShrLaws, said, one, held}
use denote.SharingLaws.{contraction, beside_shr_laws, one_shr_laws, held_shr_laws}
use denote.Moves.{moves_from}
use denote.Steps.{nothing}
use denote.Param.Laws.{Laws}
use denote.Struct.Lending.{Lends, Lends-first, Lends-both, Lends-lies, lent_at, lent_at_shr_laws, in_block_says}
use Rattle.poolsteps.specs.Portion.{parts_owns, named_code, standing, returns_if, reads_owns, named, name_owns, portion_owns, reads_shares, portion_shares}

-- the parts of one token
module _ {M : Type 1} {𝓤 : Ura M} (𝓛 : Logic 𝓤) (a : ℕ) where
  open 𝓛 use {A}

  counted : (k : ℕ) (q : Share) → Counts 63 q k → ent 𝓤 (A.lft (a ∷ []) q) (sem 𝓛 (parts_owns a k))
  counted k q c = qed 𝓛 (‵ (flft (a ∷ []) q) ∷ []) ∵ fpack ! (Counts 63 q k) (λ _. flft (a ∷ []) q) c $
      fpack ! Share (λ r. fex (Counts 63 r k) (λ _. flft (a ∷ []) r)) q $ done !

  pub parts_cut : (k i j : ℕ) → 0 < i → 0 < j → i + j ≡ k → k ≤ 2 ^ 63 → ent 𝓤 (sem 𝓛 (parts_owns a k)) (sep 𝓤 (sem 𝓛 (parts_owns a i)) (sem 𝓛 (parts_owns a j)))
  parts_cut k i j some_i some_j sum fits =
      let left = counts_some 63 i some_i (omega arith) in let right = counts_some 63 j some_j (omega arith) in
      qed 𝓛 (‵ (parts_owns a k) ∷ []) ∵ fpick ! (λ q. fpick ! (λ c.
      use1 𝓛 (‵ (flft (a ∷ []) left.0) ⊛ ‵ (flft (a ∷ []) right.0)) (𝓛.lfts.lft_cut (a ∷ []) q left.0 right.0 (Counts-op 63 left.0 right.0 q i j k left.1 right.1 c sum)) $
      split ! $ use1 𝓛 (‵ (parts_owns a i)) (counted i left.0 left.1) $
      move ! (1 ∷ []) $ use1 𝓛 (‵ (parts_owns a j)) (counted j right.0 right.1) $ move ! (1 ∷ []) $ done !))

  one_share : (i j : ℕ) (q : Share) → Counts 63 q (i + j) → ent 𝓤 (sep 𝓤 (sem 𝓛 (parts_owns a i)) (sem 𝓛 (parts_owns a j))) (A.lft (a ∷ []) q)
  one_share i j q c = qed 𝓛 (‵ (parts_owns a i) ∷ ‵ (parts_owns a j) ∷ []) ∵
      fpick ! (λ l. fpick ! (λ cl. move ! (1 ∷ []) $ fpick ! (λ r. fpick ! (λ cr. move ! (1 ∷ []) $
      by ! (𝓛.lfts.lft_glue (a ∷ []) q l r (Counts-op 63 l r q i j (i + j) cl cr c refl))))))

  pub parts_glue : (i j : ℕ) → 0 < i + j → i + j ≤ 2 ^ 63 → ent 𝓤 (sep 𝓤 (sem 𝓛 (parts_owns a i)) (sem 𝓛 (parts_owns a j))) (sem 𝓛 (parts_owns a (i + j)))
  parts_glue i j some fits = let q = counts_some 63 (i + j) some fits in
      qed 𝓛 (‵ (parts_owns a i) ∷ ‵ (parts_owns a j) ∷ []) ∵ use2 𝓛 (‵ (flft (a ∷ []) q.0)) (one_share i j q.0 q.1) $ by ! (counted (i + j) q.0 q.1)

  all_parts : ent 𝓤 (A.lft (a ∷ []) full_share) (sem 𝓛 (parts_owns a (2 ^ 63)))
  all_parts = counted (2 ^ 63) full_share (Counts-all 63)

  whole_token : ent 𝓤 (sem 𝓛 (parts_owns a (2 ^ 63))) (A.lft (a ∷ []) full_share)
  whole_token = qed 𝓛 (‵ (parts_owns a (2 ^ 63)) ∷ []) ∵
      use1 𝓛 (‵ (parts_owns a 1) ⊛ ‵ (parts_owns a (2 ^ 63 - 1))) (parts_cut (2 ^ 63) 1 (2 ^ 63 - 1) (omega arith) (omega arith) (omega arith) (omega arith)) $ split ! $
      by ! (one_share 1 (2 ^ 63 - 1) full_share (Counts-all 63))

-- what a `&` to a portion gives
module _ (R : RattleType) (L : Laws R) (p : Ptr) (x : R.Denot) (a : ℕ) where
  abbrev seen : Lft → Fml
  seen = lent_at R p x

  abbrev seen_laws : ShrLaws seen
  seen_laws = lent_at_shr_laws R L.shr_laws p x

  reads_laws : ShrLaws (reads_shares R p x a)
  reads_laws = beside_shr_laws (one (λ q. flft (a ∷ []) q)) (held (a ∷ []) seen) (one_shr_laws (λ q. flft (a ∷ []) q)) (held_shr_laws (a ∷ []) seen seen_laws)

  named_laws : (name : ℕ) → ShrLaws (said (named R p x a name))
  named_laws name = record {
    contraction = λ M 𝓤 𝓛 κ. 𝓛.names.res_dup name ((named_code R).code (a, (p, x)));
    mono = λ M 𝓤 𝓛 κ' κ. snd∗ 𝓤 (sem 𝓛 (before κ' κ)) (sem 𝓛 (named R p x a name));
  }

  pub shares_laws : (name : ℕ) → ShrLaws (portion_shares R p x a name)
  shares_laws name = beside_shr_laws (reads_shares R p x a) (said (named R p x a name)) reads_laws (named_laws name)

  module _ {M : Type 1} {𝓤 : Ura M} (𝓛 : Logic 𝓤) where
    open 𝓛 use {H, A}

    pub shares_see : (name : ℕ) (κ : Lft) → ent 𝓤 (sem 𝓛 (portion_shares R p x a name κ)) (sem 𝓛 (seen κ))
    shares_see name κ = qed 𝓛 (‵ (portion_shares R p x a name κ) ∷ []) ∵ fsplit ! $ keep ! (0 ∷ []) $ fsplit ! $ by ! (moves_from 𝓛 seen seen_laws κ (a ∷ []) (a ∷ []) (meet_⊑_left (a ∷ []) κ))

    -- a borrow of the parts comes back as a borrow of one share of the token
    way_back : (k : ℕ) (κ : Lft) (q : Share) → Counts 63 q k
        → ent 𝓤 (sem 𝓛 (seen (a ∷ []))) (sem 𝓛 (fwand (fsep (fdead κ) (fseps (flft (a ∷ []) q ∷ []))) (fupd (reads_owns R p x a k))))
    unfolding fseps
    way_back k κ q c = qed 𝓛 (‵ (seen (a ∷ [])) ∷ []) ∵ assume ! (‵ (fsep (fdead κ) (fsep (flft (a ∷ []) q) ftrue))) $
        suffices ! (sem 𝓛 (reads_owns R p x a k)) (upd_i 𝓤 (sem 𝓛 (reads_owns R p x a k))) $
        fsplit3 ! $ move ! (1 ∷ []) $ use1 𝓛 (‵ (parts_owns a k)) (counted 𝓛 a k q c) $ keep ! (0 ∷ 3 ∷ []) $ fjoin ! $ done !

    borrowed : (k : ℕ) (κ : Lft) (s : Share) → ent 𝓤 (sep 𝓤 (A.bor κ (reads_owns R p x a k)) (A.lft κ s)) (H.⇛ (sep 𝓤 (sem 𝓛 (reads_shares R p x a κ)) (A.lft κ s)))
    unfolding fseps
    borrowed k κ s = qed 𝓛 (‵ (fbor κ (reads_owns R p x a k)) ∷ ‵ (flft κ s) ∷ []) ∵ updating ! $ bor_open ! tt $ move ! (1 ∷ []) $ fsplit ! $ fpick ! (λ q. fpick ! (λ c.
        -- [the share; the object; the open borrow]
        move ! (1 ∷ []) $ use1 𝓛 (‵ (seen (a ∷ [])) ⊛ ‵ (seen (a ∷ []))) (contraction 𝓛 seen seen_laws (a ∷ [])) $ split ! $
        use1 𝓛 (‵ (fwand (fsep (fdead κ) (fseps (flft (a ∷ []) q ∷ []))) (fupd (reads_owns R p x a k)))) (way_back k κ q c) $
        nothing ! $ move ! (3 ∷ 0 ∷ []) $ fjoin ! $ move ! (3 ∷ 0 ∷ 1 ∷ []) $ obor_alter ! tt (flft (a ∷ []) q ∷ []) $
        use1 𝓛 (‵ (fbor κ (flft (a ∷ []) q)) ⊛ ‵ ftrue) (id⊢ 𝓤 _) $ split ! $ bor_fracture ! tt (λ r. flft (a ∷ []) r) q $
        move ! (0 ∷ 3 ∷ []) $ fjoin ! $ now ! $ keep ! (0 ∷ 2 ∷ []) $ done !))

    reads_lend : (k : ℕ) (l : Lft) → Lends 𝓛 (reads_owns R p x a k) (reads_shares R p x a) l
    reads_lend k l κ ts inc spanned = qed 𝓛 (‵ (fbor κ (reads_owns R p x a k)) ∷ raw (lfts 𝓛 ts) ∷ []) ∵ updating ! $ move ! (1 ∷ []) $
        use1 𝓛 (exists (λ (q : Share). ‵ (flft (span ts) q) ⊛ raw (wand 𝓤 (A.lft (span ts) q) (lfts 𝓛 ts)))) (one_token 𝓛 ts) $ pick ! (λ q. split ! $
        use1 𝓛 (‵ (flft κ (thinned κ q)) ⊛ raw (wand 𝓤 (A.lft κ (thinned κ q)) (A.lft (span ts) q))) (𝓛.lfts.lft-incl (span ts) κ q spanned) $ split ! $ move ! (3 ∷ 0 ∷ []) $
        use2 𝓛 (later (‵ (reads_shares R p x a κ) ⊛ ‵ (flft κ (thinned κ q)))) (borrowed k κ (thinned κ q)) $ await ! tt $ split ! $ move ! (1 ∷ 2 ∷ []) $
        use2 𝓛 (‵ (flft (span ts) q)) (apply∗ 𝓤 (A.lft κ (thinned κ q)) (A.lft (span ts) q)) $ move ! (0 ∷ 2 ∷ []) $
        use2 𝓛 (raw (lfts 𝓛 ts)) (apply∗ 𝓤 (A.lft (span ts) q) (lfts 𝓛 ts)) $ now ! $ move ! (1 ∷ 0 ∷ []) $ done !)

    -- a borrow of the name opens, and gives the name for good
    name_lends : (name : ℕ) (l : Lft) → Lends 𝓛 (named R p x a name) (said (named R p x a name)) l
    name_lends name l κ ts inc spanned =
        let N : Fml = named R p x a name in let Back = H.⇛ (sep 𝓤 (A.bor κ N) (lfts 𝓛 ts)) in
        qed 𝓛 (‵ (fbor κ N) ∷ raw (lfts 𝓛 ts) ∷ []) ∵ updating ! $
        use2 𝓛 (later (‵ N ⊛ raw (wand 𝓤 (sem 𝓛 N) Back))) (𝓛.more.bor_acc_by κ ts N spanned) $ await ! tt $ split ! $ res_dup ! $
        -- [the name; the name; what closes the borrow]
        move ! (0 ∷ 2 ∷ []) $ use2 𝓛 (later (‵ (fbor κ N) ⊛ raw (lfts 𝓛 ts))) (apply∗ 𝓤 (sem 𝓛 N) Back) $ await ! tt $ split ! $ now ! $ keep ! (2 ∷ 1 ∷ []) $ done !

    pub portion_lends : (name k : ℕ) (y : Bool) (l : Lft) → Lends 𝓛 (portion_owns R p x a name k y) (portion_shares R p x a name) l
    portion_lends name k y l = Lends-both 𝓛 (reads_owns R p x a k) (fsep (named R p x a name) (returns_if R p x a y)) (reads_shares R p x a) (said (named R p x a name)) l
        (reads_lend k l) (Lends-first 𝓛 (named R p x a name) (returns_if R p x a y) (said (named R p x a name)) l (name_lends name l))

-- a portion
module _ {M : Type 1} {𝓤 : Ura M} (𝓛 : Logic 𝓤) (R : RattleType) where
  open 𝓛 use {H, A}

  pub portion_lies : (p : Ptr) (x : R.Denot) (a name k : ℕ) (y : Bool) → ent 𝓤 (sem 𝓛 (portion_owns R p x a name k y)) (fact 𝓤 (InBlock p))
  portion_lies p x a name k y = qed 𝓛 (‵ (portion_owns R p x a name k y) ∷ []) ∵ fsplit ! $ fsplit ! $ move ! (1 ∷ []) $ fsplit ! $ keep ! (0 ∷ []) $ by ! (in_block_says 𝓛 p)

  -- two portions of one name are of one cell
  abbrev pub Cell : Type 0
  Cell = ℕ × (Ptr × R.Denot)

  names_agree : (name : ℕ) (c d : Cell) → ent 𝓤 (sep 𝓤 (sem 𝓛 (fres name ((named_code R).code c))) (sem 𝓛 (fres name ((named_code R).code d)))) (fact 𝓤 (c ≡ d))
  names_agree name c d = let P = A.res name ((named_code R).code c) in let Q = A.res name ((named_code R).code d) in
      via 𝓤 _ (via 𝓤 _ (conj_i 𝓤 P Q (fst∗ 𝓤 P Q) (snd∗ 𝓤 P Q)) (𝓛.names.res_one name ((named_code R).code c) ((named_code R).code d)))
      (fact_mono 𝓤 _ (c ≡ d) ((named_code R).inj c d))

  pub named_agree : (c d : Cell) (name : ℕ) → ent 𝓤 (sep 𝓤 (sem 𝓛 (named R c.1.0 c.1.1 c.0 name)) (sem 𝓛 (named R d.1.0 d.1.1 d.0 name))) (fact 𝓤 (c ≡ d))
  named_agree c d name = names_agree name c d

  pub portions_agree : (c d : Cell) (name k j : ℕ) (y z : Bool)
      → ent 𝓤 (sep 𝓤 (sem 𝓛 (portion_owns R c.1.0 c.1.1 c.0 name k y)) (sem 𝓛 (portion_owns R d.1.0 d.1.1 d.0 name j z))) (fact 𝓤 (c ≡ d))
  portions_agree c d name k j y z = qed 𝓛 (‵ (portion_owns R c.1.0 c.1.1 c.0 name k y) ∷ ‵ (portion_owns R d.1.0 d.1.1 d.0 name j z) ∷ []) ∵
      fsplit3 ! $ move ! (3 ∷ []) $ fsplit3 ! $ keep ! (4 ∷ 1 ∷ []) $ by ! (names_agree name c d)

  module _ (L : Laws R) (p : Ptr) (x : R.Denot) where
    -- the box is lent for a new lifetime, and the cell gets its name
    pub cell_lent : (μ : Lft) (s : Share) → Incl μ R.lives
        → ent 𝓤 (sep 𝓤 (sem 𝓛 (standing R p x 0)) (A.lft μ s)) (H.⇛ (sep 𝓤 (sem 𝓛 (fex (ℕ × ℕ) (λ c. portion_owns R p x c.0 c.1 (2 ^ 63) true))) (A.lft μ s)))
    cell_lent μ s inc = qed 𝓛 (‵ (standing R p x 0) ∷ ‵ (flft μ s) ∷ []) ∵ updating ! $ lft_new ! tt (λ a. move ! (1 ∷ []) $ bor_new ! tt (a ∷ []) $
        -- [the borrow; the lender's right; the token of a; the token of μ]
        move ! (2 ∷ 3 ∷ []) $ join ! $ move ! (1 ∷ 0 ∷ []) $
        use2 𝓛 (later (‵ (lent_at R p x (a ∷ [])) ⊛ ‵ (flft (a ∷ []) full_share) ⊛ ‵ (flft μ s)))
        (Lends-lies 𝓛 R R.lives p x (L.shares 𝓛 x)
        (a ∷ []) ((a ∷ [], full_share) ∷ (μ, s) ∷ []) (Incl-trans (meet_⊑_right (a ∷ []) μ) inc) (meet_⊑_left (a ∷ []) μ)) $ await ! tt $ split3 ! $
        move ! (1 ∷ []) $ use1 𝓛 (‵ (parts_owns a (2 ^ 63))) (all_parts 𝓛 a) $ fjoin ! $
        -- [what is read; the token of μ; the lender's right]
        name_new ! tt ((named_code R).code (a, (p, x))) (λ name. use1 𝓛 (‵ (named R p x a name)) (𝓛.names.obs-res name ((named_code R).code (a, (p, x)))) $
        move ! (2 ∷ 0 ∷ 4 ∷ []) $ fjoin3 ! $ fpack ! (ℕ × ℕ) (λ c. portion_owns R p x c.0 c.1 (2 ^ 63) true) (a, name) $ now ! $ keep ! (0 ∷ 2 ∷ []) $ done !))

    -- the same under a name that was kept for it
    pub cell_lent_as : (name : ℕ) (μ : Lft) (s : Share) → Incl μ R.lives
        → ent 𝓤 (sep 𝓤 (sem 𝓛 (standing R p x 0)) (sep 𝓤 (sem 𝓛 (name_owns name)) (A.lft μ s))) (H.⇛ (sep 𝓤 (sem 𝓛 (fex ℕ (λ a. portion_owns R p x a name (2 ^ 63) true))) (A.lft μ s)))
    cell_lent_as name μ s inc = qed 𝓛 (‵ (standing R p x 0) ∷ ‵ (name_owns name) ∷ ‵ (flft μ s) ∷ []) ∵ updating ! $ lft_new ! tt (λ a. move ! (1 ∷ []) $ bor_new ! tt (a ∷ []) $
        -- [the borrow; the lender's right; the token of a; the name; the token of μ]
        move ! (2 ∷ 4 ∷ []) $ join ! $ move ! (1 ∷ 0 ∷ []) $
        use2 𝓛 (later (‵ (lent_at R p x (a ∷ [])) ⊛ ‵ (flft (a ∷ []) full_share) ⊛ ‵ (flft μ s)))
        (Lends-lies 𝓛 R R.lives p x (L.shares 𝓛 x)
        (a ∷ []) ((a ∷ [], full_share) ∷ (μ, s) ∷ []) (Incl-trans (meet_⊑_right (a ∷ []) μ) inc) (meet_⊑_left (a ∷ []) μ)) $ await ! tt $ split3 ! $
        move ! (1 ∷ []) $ use1 𝓛 (‵ (parts_owns a (2 ^ 63))) (all_parts 𝓛 a) $ fjoin ! $
        -- [what is read; the token of μ; the lender's right; the name]
        move ! (3 ∷ []) $ fsplit ! $ name_set ! tt ((named_code R).code (a, (p, x))) $ use1 𝓛 (‵ (named R p x a name)) (𝓛.names.obs-res name ((named_code R).code (a, (p, x)))) $
        move ! (2 ∷ 0 ∷ 4 ∷ []) $ fjoin3 ! $ fpack ! ℕ (λ c. portion_owns R p x c name (2 ^ 63) true) a $ now ! $ keep ! (0 ∷ 2 ∷ []) $ done !)

    module _ (a name : ℕ) where
      pub cell_ended : ent 𝓤 (sem 𝓛 (portion_owns R p x a name (2 ^ 63) true)) (H.⇛ (sem 𝓛 (standing R p x a)))
      cell_ended = qed 𝓛 (‵ (portion_owns R p x a name (2 ^ 63) true) ∷ []) ∵ updating ! $ fsplit3 ! $ fsplit ! $
          use1 𝓛 (‵ (flft (a ∷ []) full_share)) (whole_token 𝓛 a) $ lft_end ! tt $ keep ! (0 ∷ 3 ∷ []) $ lent_back ! tt $ now ! $ done !

      pub portion_cut : (k j : ℕ) (y : Bool) → 0 < j → j < k → k ≤ 2 ^ 63
          → ent 𝓤 (sem 𝓛 (portion_owns R p x a name k y)) (sep 𝓤 (sem 𝓛 (portion_owns R p x a name (k - j) y)) (sem 𝓛 (portion_owns R p x a name j false)))
      portion_cut k j y some many fits = qed 𝓛 (‵ (portion_owns R p x a name k y) ∷ []) ∵ fsplit3 ! $ fsplit ! $
          use1 𝓛 (‵ (parts_owns a (k - j)) ⊛ ‵ (parts_owns a j)) (parts_cut 𝓛 a k (k - j) j (omega arith) some (omega arith) fits) $ split ! $
          -- [what stays; what goes; the object; the name; the lender's right]
          move ! (2 ∷ []) $ use1 𝓛 (‵ (lent_at R p x (a ∷ [])) ⊛ ‵ (lent_at R p x (a ∷ []))) (contraction 𝓛 (lent_at R p x) (lent_at_shr_laws R L.shr_laws p x) (a ∷ [])) $ split ! $
          move ! (4 ∷ []) $ res_dup ! $ move ! (4 ∷ 2 ∷ []) $ fjoin ! $ move ! (0 ∷ 1 ∷ 5 ∷ []) $ fjoin3 ! $
          move ! (3 ∷ 2 ∷ []) $ fjoin ! $ nothing ! $ move ! (1 ∷ 3 ∷ 0 ∷ []) $ fjoin3 ! $ move ! (1 ∷ 0 ∷ []) $ done !

      either_returns : (y z : Bool) → ent 𝓤 (sep 𝓤 (sem 𝓛 (returns_if R p x a y)) (sem 𝓛 (returns_if R p x a z))) (sem 𝓛 (returns_if R p x a (y || z)))
      either_returns true z = fst∗ 𝓤 (sem 𝓛 (returns_if R p x a true)) (sem 𝓛 (returns_if R p x a z))
      either_returns false z = snd∗ 𝓤 (sem 𝓛 (returns_if R p x a false)) (sem 𝓛 (returns_if R p x a z))

      pub portions_merge : (k j : ℕ) (y z : Bool) → 0 < k → k + j ≤ 2 ^ 63
          → ent 𝓤 (sep 𝓤 (sem 𝓛 (portion_owns R p x a name k y)) (sem 𝓛 (portion_owns R p x a name j z))) (sem 𝓛 (portion_owns R p x a name (k + j) (y || z)))
      portions_merge k j y z some fits = qed 𝓛 (‵ (portion_owns R p x a name k y) ∷ ‵ (portion_owns R p x a name j z) ∷ []) ∵
          fsplit3 ! $ fsplit ! $ move ! (4 ∷ []) $ fsplit3 ! $ fsplit ! $
          -- [j parts; the object; the name; a right; k parts; the object; the name; a right]
          move ! (4 ∷ 0 ∷ []) $ use2 𝓛 (‵ (parts_owns a (k + j))) (parts_glue 𝓛 a k j (omega arith) fits) $ move ! (0 ∷ 1 ∷ []) $ fjoin ! $
          move ! (5 ∷ 2 ∷ []) $ use2 𝓛 (‵ (returns_if R p x a (y || z))) (either_returns y z) $ move ! (1 ∷ 2 ∷ 0 ∷ []) $ fjoin3 ! $ keep ! (0 ∷ []) $ done !
