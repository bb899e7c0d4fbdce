-- A list of keys that gains one.
use Rattle.std.proofs.Common.{◌≡◌, ◌∙◌, ◌<◌, ◌++◌, List, [], ◌∷◌, ℕ, true, false, not, IsTrue, zero, suc, Some, length, refl, sym, subst}
use Rattle.std.proofs.Common.{arith, length-append, nat_eq}
use Rattle.std.proofs.lemmas.Bool.{and_parts, or_parts}
use Rattle.std.proofs.lemmas.List.Folds.{list_any-append, list_all-append}
use Rattle.bfd_packet.specs.declared.keys.Key.{Key}
use Rattle.bfd_packet.specs.KeyChain.{KeyChain, IsKeyChain, fits_kind, has_id, distinct_ids, key_at, key_named}

-- two ids are compared in either order
eq_id-comm : (a b : ℕ) → nat_eq a b ≡ nat_eq b a
eq_id-comm a b = grind (arith)

-- a key with a new id leaves the ids distinct
distinct_ids-push : (keys : List Key) (key : Key) → distinct_ids keys ≡ true → has_id key.id keys ≡ false
    → distinct_ids (keys ++ key ∷ []) ≡ true
distinct_ids-push [] key d h = refl
distinct_ids-push (first ∷ keys) key d h =
    let old = and_parts (not (has_id first.id keys)) (distinct_ids keys) d in
    let new = or_parts (nat_eq key.id first.id) (has_id key.id keys) h in
    let seen = list_any-append (λ other. nat_eq first.id other.id) keys (key ∷ []) in
    rw (seen, eq_id-comm first.id key.id ∙ new.0, distinct_ids-push keys key old.1 new.1) (grind (arith, old.0))

-- a list that is no list of four and has no such id may gain a key that fits
stays_key_chain : (keys : KeyChain) (key : Key) → IsKeyChain keys → length keys.list < 4 → has_id key.id keys.list ≡ false
    → IsTrue (fits_kind keys.kind key.secret) → IsKeyChain (record keys { list = keys.list ++ key ∷ [] })
stays_key_chain keys key chain room fresh fits =
    let all = list_all-append (λ other. fits_kind keys.kind other.secret) keys.list (key ∷ []) in
    record {
      some = simp length-append (omega arith);
      few = simp length-append (omega arith);
      ids = distinct_ids-push keys.list key chain.ids fresh;
      lengths = rw (all, chain.lengths, fits) refl;
    }

-- the same, where what is known is said of an equal list
pub gains_key : (keys now : KeyChain) (key : Key) → keys ≡ now → IsKeyChain keys → length now.list < 4 → has_id key.id now.list ≡ false
    → IsTrue (fits_kind now.kind key.secret) → IsKeyChain (record keys { list = keys.list ++ key ∷ [] })
gains_key keys now key same chain room fresh fits =
    let e = sym same in
    stays_key_chain keys key chain (rw (← e) room) (rw (← e) fresh) (subst (λ (k : KeyChain). IsTrue (fits_kind k.kind key.secret)) e fits)

-- no key of the list has an id that no key has
other_id : (id : ℕ) (keys : List Key) (place : ℕ) → has_id id keys ≡ false → place < length keys → nat_eq id (key_at place keys).id ≡ false
other_id id [] place h lt = absurd (omega arith)
other_id id (first ∷ keys) zero h lt = (or_parts (nat_eq id first.id) (has_id id keys) h).0
other_id id (first ∷ keys) (suc place) h lt = other_id id keys place (or_parts (nat_eq id first.id) (has_id id keys) h).1 (omega arith)

-- a key's id names it
key_named-key_at : (keys : List Key) (place : ℕ) → distinct_ids keys ≡ true → place < length keys
    → key_named (key_at place keys).id keys ≡ Some (key_at place keys)
key_named-key_at [] place d lt = absurd (omega arith)
key_named-key_at (first ∷ keys) zero d lt = let e : nat_eq first.id first.id ≡ true = grind arith in rw e refl
key_named-key_at (first ∷ keys) (suc place) d lt =
    let both = and_parts (not (has_id first.id keys)) (distinct_ids keys) d in
    let lower : place < length keys = omega arith in
    let fresh : has_id first.id keys ≡ false = grind (arith, both.0) in
    rw (eq_id-comm (key_at place keys).id first.id ∙ other_id first.id keys _ fresh lower) (key_named-key_at keys _ both.1 lower)

-- the same of the key that stands there
pub names_itself : (keys : List Key) {place : ℕ} {key : Key} → distinct_ids keys ≡ true → place < length keys → key ≡ key_at place keys
    → key_named key.id keys ≡ Some key
names_itself keys {place} ids lt e = rw e (key_named-key_at keys _ ids lt)
