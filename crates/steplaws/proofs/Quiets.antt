-- Steps that change neither a lifecycle word nor what the words stand for keep Count, State and Owed claim.
use Rattle.std.proofs.Common.{◌≡◌, ◌⊎◌, ⊎_elim, ℕ, Bool, true, false, eqb, ◌&&◌, List, Option, refl, ap, sym, ◌∙◌, subst, arith}
use Rattle.keybits.specs.declared.shape.Shape.{Shape}
use Rattle.keybits.specs.Shapes.{callers}
use Rattle.keybits.specs.Keys.{place_of, generation_of, is_key}
use Rattle.keybits.proofs.CountLemmas.{sum-same}
use Rattle.seqpool.specs.declared.act.Act.{Act}
use Rattle.seqpool.specs.Pool.{Phase, with, home, Spot, Pool, references_in, has_key, is_published, is_current, pool_after, IsLegal}
use Rattle.steplaws.specs.declared.pending.Pending.{Pending}
use Rattle.steplaws.specs.declared.pending.Pending.TheVariants.{Nothing, Undo, Owes, Returns}
use Rattle.steplaws.specs.Facts.{put_at, Words, Lanes, moment, to_undo, bits_of, Home, Rule}
use Rattle.steplaws.proofs.Updates.{at-else, at-lane}

-- a phase without a row: no references, idle
pub record IsIdle (f : Phase) : Type 0 where
  pub bits : bits_of f ≡ 0
  pub references : (l : ℕ) → references_in f l ≡ 0
  pub no_row : is_published f ≡ false

pub idle-with : (l : ℕ) (f : Phase) → f ≡ with l → IsIdle f
idle-with l f e = subst IsIdle (sym e) record { bits = refl; references = λ l. refl; no_row = refl }

pub idle-home : (f : Phase) → f ≡ home → IsIdle f
idle-home f e = subst IsIdle (sym e) record { bits = refl; references = λ l. refl; no_row = refl }

-- the place is as it was, or it was idle and is idle
abbrev pub Still : Spot → Spot → Type 0
Still s t = (t ≡ s) ⊎ ((t.generation ≡ s.generation) × IsIdle s.phase × IsIdle t.phase)

-- what is under way, as far as counts and claims go
pub record Alike (u v : ℕ → Pending) : Type 0 where
  pub undo : (place m : ℕ) → to_undo place (v m) ≡ to_undo place (u m)
  pub pinned : (m key : ℕ) → v m ≡ Undo key true → u m ≡ Undo key true
  pub owes : (m place generation : ℕ) → u m ≡ Owes place generation → v m ≡ Owes place generation

pub alike-self : (u : ℕ → Pending) → Alike u u
alike-self u = record { undo = λ place m. refl; pinned = λ m key e. e; owes = λ m place generation e. e }

-- neither an ENTER to undo nor a claim owed
pub record IsQuiet (u : Pending) : Type 0 where
  pub none : (place : ℕ) → to_undo place u ≡ 0
  pub no_undo : (key : ℕ) → u ≡ Undo key true → ⊥
  pub no_claim : (place generation : ℕ) → u ≡ Owes place generation → ⊥

pub quiet-nothing : IsQuiet Nothing
quiet-nothing = record { none = λ place. refl; no_undo = λ key e. cc e; no_claim = λ place generation e. cc e }

pub quiet-returns : (place : ℕ) (linked : Option ℕ) (failed : Bool) → IsQuiet (Returns place linked failed)
quiet-returns place linked failed = record { none = λ place. refl; no_undo = λ key e. cc e; no_claim = λ place generation e. cc e }

pub alike-put : (u : ℕ → Pending) (lane : ℕ) (x : Pending) → IsQuiet (u lane) → IsQuiet x → Alike u (put_at u lane x)
alike-put u lane x old new = record {
  undo = λ place m. at-lane u lane x (λ n y. to_undo place y ≡ to_undo place (u n)) m (new.none place ∙ sym (old.none place)) (λ other. refl);
  pinned = λ m key. at-lane u lane x (λ n y. y ≡ Undo key true → u n ≡ Undo key true) m (λ e. absurd (new.no_undo key e)) (λ other e. e);
  owes = λ m place generation e. at-else u lane x m (λ same. old.no_claim place generation (ap u (sym same) ∙ e)) ∙ e;
}

module _ (s t : Spot) where
  still-bits : Still s t → bits_of t.phase ≡ bits_of s.phase
  still-bits h = ⊎_elim (λ (e : t ≡ s). ap (λ (x : Spot). bits_of x.phase) e)
      (λ (i : (t.generation ≡ s.generation) × IsIdle s.phase × IsIdle t.phase). let a = i.1 in let b = i.2 in b.bits ∙ sym a.bits) h

  still-generation : Still s t → t.generation ≡ s.generation
  still-generation h = ⊎_elim (λ (e : t ≡ s). ap (λ (x : Spot). x.generation) e) (λ (i : (t.generation ≡ s.generation) × IsIdle s.phase × IsIdle t.phase). i.0) h

  still-references : (l : ℕ) → Still s t → references_in t.phase l ≡ references_in s.phase l
  still-references l h = ⊎_elim (λ (e : t ≡ s). ap (λ (x : Spot). references_in x.phase l) e)
      (λ (i : (t.generation ≡ s.generation) × IsIdle s.phase × IsIdle t.phase). let a = i.1 in let b = i.2 in b.references l ∙ sym (a.references l)) h

false_last : (a b : Bool) → b ≡ false → (a && b) ≡ true → ⊥
false_last true b none e = let bad : false ≡ true = sym none ∙ e in cc bad
false_last false b none e = cc e

still-key : (z : Shape) (P Q : Pool) (key : ℕ) → Still (P (place_of key)) (Q (place_of key)) → has_key z P key ≡ true → has_key z Q key ≡ true
still-key z P Q key h e = ⊎_elim
    (λ (same : Q (place_of key) ≡ P (place_of key)). ap (λ (s : Spot). (is_key z key && eqb s.generation (generation_of key)) && is_published s.phase) same ∙ e)
    (λ (i : ((Q (place_of key)).generation ≡ (P (place_of key)).generation) × IsIdle (P (place_of key)).phase × IsIdle (Q (place_of key)).phase).
    let a = i.1 in absurd (false_last (is_current z P key) (is_published (P (place_of key)).phase) a.no_row e)) h

pub quiet_keeps : (z : Shape) (w : Words) (f : ℕ → ℕ) (g b : ℕ → ℕ → ℕ) (h k : List Act) (r r' : Lanes) → Rule z (moment w h r) → IsLegal z k → Alike r.under r'.under
    → ((q : ℕ) → Still (pool_after z h q) (pool_after z k q)) → Home z record { life = w.life; link = f; stack = g; bits = b } k r' → Rule z (moment (record { life = w.life; link = f; stack = g; bits = b }) k r')
quiet_keeps z w f g b h k r r' s legal u still homes = record {
  limits = s.limits;
  wide = s.wide;
  legal = legal;
  count = λ place inside. s.count place inside ∙ sym (
      let a = sum-same (callers z) (λ lane. references_in (pool_after z k place).phase lane) (λ lane. references_in (pool_after z h place).phase lane)
      (λ lane below. still-references (pool_after z h place) (pool_after z k place) lane (still place)) in
      let b = sum-same (callers z) (λ lane. to_undo place (r'.under lane)) (λ lane. to_undo place (r.under lane)) (λ lane below. u.undo place lane) in
      omega arith);
  pinned = λ lane key below e. still-key z (pool_after z h) (pool_after z k) key (still (place_of key)) (s.pinned lane key below (u.pinned lane key e));
  state = λ place inside. let old = s.state place inside in (
    old.0 ∙ sym (still-bits (pool_after z h place) (pool_after z k place) (still place)),
    old.1 ∙ sym (still-generation (pool_after z h place) (pool_after z k place) (still place)),
  );
  owed = λ place generation inside e. let o = s.owed place generation inside e in (o.0, o.1, u.owes o.0 place generation o.2);
  few = λ place lane. let old = s.few place lane in let same = still-references (pool_after z h place) (pool_after z k place) lane (still place) in omega arith;
  home = homes;
}
