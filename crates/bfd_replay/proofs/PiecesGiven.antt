-- The parts' pieces, given to a sink.
use Rattle.bfd_replay.proofs.ReportCommon.{◌≡◌, ◌<◌, ◌+◌, ◌++◌, ℕ, List, length, drop, map, set, get_or, refl, sym, ap, ◌∙◌, append_assoc}
use Rattle.bfd_replay.proofs.ReportCommon.{Option, None, Appends, TookFront, TookUpTo, Key, Piece, Dealt, dealt_text, IsLeast, dropped}
use Rattle.bfd_replay.proofs.ReportCommon.{first_key, keys, first_text, first_txs, first_drops, Appends-trans}
use Rattle.bfd_replay.proofs.Written.{front_of_longer, took_front}
use Rattle.bfd_replay.proofs.Taking.{Going, go, gone, txs_of, drops_of}

-- a sink accepted a prefix of the pieces' text, this text is the rest of it, and the others are left
pub record Giving (all : List Dealt) (parts : List (List Piece)) (old new : Option (List ℕ)) (before text : List ℕ) (txs drops : ℕ) : Type 0
  where
    pub front : List ℕ
    pub took : Appends old new front
    pub going : Going all parts before (front ++ text) txs drops

-- one more piece was taken
pub take_more : {all : List Dealt} {parts parts2 : List (List Piece)} {old new : Option (List ℕ)} {before text text2 : List ℕ} {heads : List
    (Option Key)} {part : List Piece} {txs drops count fell s : ℕ}
    → heads ≡ map first_key parts → IsLeast heads s → part ≡ get_or parts s part → parts2 ≡ set parts s (drop 1 part)
    → text2 ≡ text ++ first_text part
    → count ≡ txs + first_txs part → fell ≡ drops + first_drops part
    → Giving all parts old new before text txs drops → Giving all parts2 old new before text2 count fell
take_more {text} {part} firsts least is taken more sent dropped g = record {
  front = g.front;
  took = g.took;
  going = rw sent (rw dropped (go (first_txs part) (first_drops part) firsts least is taken
      (cc (append_assoc g.front text (first_text part))) refl refl g.going));
}

-- more of the text was given
pub give_more : {all : List Dealt} {parts : List (List Piece)} {old mid new : Option (List ℕ)} {before text kept : List ℕ} {txs drops : ℕ}
    → TookUpTo mid new text kept → Giving all parts old mid before text txs drops → Giving all parts old new before kept txs drops
give_more {old} {mid} {new} {kept} (given, now, split) g = record {
  front = g.front ++ given;
  took = Appends-trans old mid new g.front given g.took now;
  going = rw (← ap (λ t. g.front ++ t) split ∙ sym (append_assoc g.front given kept)) g.going;
}

-- what was accepted of all text
given_up_to : {all : List Dealt} {parts : List (List Piece)} {old new : Option (List ℕ)} {before text : List ℕ} {txs drops : ℕ}
    → (g : Giving all parts old new before text txs drops) → TookUpTo old new (before ++ dealt_text all) (text ++ dealt_text g.going.left)
given_up_to {text} g = (g.front, g.took, cc (append_assoc g.front text (dealt_text g.going.left)))

pub given_front : {all : List Dealt} {parts : List (List Piece)} {old new : Option (List ℕ)} {before text : List ℕ} {txs drops : ℕ}
    → Giving all parts old new before text txs drops → TookFront old new (before ++ dealt_text all)
given_front {text} g = (text ++ dealt_text g.going.left, given_up_to g)

-- where the sink failed, behind one more piece
pub given_broken : {all : List Dealt} {parts : List (List Piece)} {old mid : Option (List ℕ)}
    (new : Option (List ℕ)) {before text : List ℕ} {txs drops : ℕ}
    → Giving all parts old mid before text txs drops → TookFront mid new text → TookFront old new (before ++ dealt_text all)
given_broken {all} {old} {mid} new {before} {text} g took = took_front old mid new _ _ (given_up_to g)
    (front_of_longer mid new text (dealt_text g.going.left) took)

-- all pieces were taken
pub all_given : {all : List Dealt} {parts : List (List Piece)}
    (heads : List (Option ℕ)) {old new : Option (List ℕ)} {before text : List ℕ} {txs drops : ℕ}
    → keys heads ≡ map first_key parts → ((s : ℕ) → s < length heads → get_or heads s None ≡ None)
    → Giving all parts old new before text txs drops → TookUpTo old new (before ++ dealt_text all) text × (txs ≡ txs_of all)
    × (drops ≡ drops_of all)
all_given heads firsts none g =
    let last = gone heads firsts none g.going in
    ((g.front, g.took, sym last.0), last.1, last.2)
