-- Laws of the waiting list.
use Rattle.std.proofs.Common.{◌≡◌, Bool, true, false, List, [], ◌∷◌, set, Some, Option, Ok, Err, Result, sym, refl, ap, ◌∙◌, subst}
use Rattle.std.specs.List.{slice_get, AllByRecursion}
use Rattle.std.specs.Result.{MatchResult, IsErrAnd}
use Rattle.std.proofs.lemmas.Bool.{cond_both, and_parts, and_from, not-true, not_from_false, not-false}
use Rattle.precedence.specs.Laws.{WeakOrder}
use Rattle.precedence.specs.Sorted.{InOrder, none_before, put}
use Rattle.precedence.specs.declared.bounded.BoundedList.{BoundedList}
use Rattle.precedence.specs.Bounded.{records, Adds}
use Rattle.precedence.proofs.Order.{irreflexive}
use Rattle.jobs.specs.declared.job.Job.{Job}
use Rattle.jobs.specs.declared.job.JobKey.{JobKey}
use Rattle.jobs.specs.Jobs.{key_of, job_before, worked}
use Rattle.jobs.specs.Laws.{JobOrder}
use Rattle.ready_queue.specs.declared.queue.QueueFull.{QueueFull}
use Rattle.ready_queue.specs.Waiting.{serve_first, NewNumber, NumbersApart}
use Rattle.ready_queue.specs.Calls.{Leads, Releases, Serves}

-- none before, as a fact of each
pub none_before_all : {X : Type 0} (g : X → X → Bool) (x : X) (ys : List X) → none_before g x ys ≡ true → AllByRecursion (λ y. g y x ≡ false) ys
none_before_all g x [] h = tt
none_before_all g x (y ∷ ys) h = let p = and_parts _ _ h in (not-true _ p.0, none_before_all g x ys p.1)

pub leads : (js : List Job) → Leads js (slice_get js 0)
leads [] = refl
leads (j ∷ js) = λ g w s. (irreflexive g w (key_of j), none_before_all (job_before g) j js (and_parts _ _ s).0)

-- a new number among numbers that are apart
new_put : (g : Job → Job → Bool) (x z : Job) (ys : List Job) → (x.number ≡ z.number → ⊥) → NewNumber z ys → NewNumber z (put g x ys)
new_put g x z [] h a = (h, tt)
new_put g x z (y ∷ ys) h a =
    cond_both (g x y) _ _ (NewNumber z) (λ _. (h, a)) (λ _. (a.0, new_put g x z ys h a.1))

pub apart_put : (g : Job → Job → Bool) (x : Job) (ys : List Job) → NewNumber x ys → NumbersApart ys → NumbersApart (put g x ys)
apart_put g x [] a p = (tt, tt)
apart_put g x (y ∷ ys) a p =
    cond_both (g x y) _ _ NumbersApart
    (λ _. (a, p))
    (λ _. (new_put g x y ys (λ e. a.0 (sym e)) p.0, apart_put g x ys a.1 p.1))

-- what an insertion into the bounded list means for the queue
pub releases : (g : Job → Job → Bool) (j : Job) (before after : BoundedList Job 32) (r : Result Unit Job) (s : Result Unit QueueFull) → Adds g j before after r → MatchResult r (λ x. s ≡ Ok x) (λ e. IsErrAnd s (λ f. f.0 ≡ e)) → Releases g j (records before) (records after) s
releases g j before after (Ok u) s h m =
    subst (Releases g j (records before) (records after)) (sym m)
    (h.0, h.1, h.2, λ new a. subst NumbersApart (sym h.1) (apart_put g j (records before) new a))
releases g j before after (Err k) (Err full) h m = (h.0, m ∙ h.1, ap records h.2)
releases g j before after (Err k) (Ok u) h m = absurd m

-- what a started first job still goes before
module _ (g : JobKey → JobKey → Bool) (w : WeakOrder g) (o : JobOrder g) (j : Job) where
  none_before_worked : (js : List Job) → NewNumber j js → none_before (job_before g) j js ≡ true → none_before (job_before g) (worked j) js ≡ true
  none_before_worked [] a n = refl
  none_before_worked (k ∷ ks) a n =
      let p = and_parts _ _ n in
      let kj : g (key_of k) (key_of j) ≡ false = not-true _ p.0 in
      let jk : g (key_of j) (key_of k) ≡ true = not-false _ (sym (o.total (key_of k) (key_of j) a.0) ∙ kj) in
      and_from _ _ (not_from_false _ (w.asymmetric _ _ (o.started (key_of j) (key_of k) jk))) (none_before_worked ks a.1 p.1)

  served_in_order : (js : List Job) → NumbersApart (j ∷ js) → InOrder (job_before g) (j ∷ js) → InOrder (job_before g) (worked j ∷ js)
  served_in_order js a s = let p = and_parts _ _ s in and_from _ _ (none_before_worked js a.0 p.0) p.1

serves_list : (js : List Job) → Serves js (serve_first js) (slice_get js 0)
serves_list [] = (refl, refl, (λ _ _ _ _ s. s), (λ a. a))
serves_list (j ∷ js) = (refl, refl, (λ g w o a s. served_in_order g w o j js a s), (λ a. a))

pub serves : (js after : List Job) (r : Option Job) → r ≡ slice_get js 0 → after ≡ serve_first js → Serves js after r
serves js after r e f = subst (λ (o : Option Job). Serves js after o) (sym e) (subst (λ (l : List Job). Serves js l (slice_get js 0)) (sym f) (serves_list js))

pub served_row : (js : List Job) (j : Job) → slice_get js 0 ≡ Some j → set js 0 (worked j) ≡ serve_first js
served_row [] j h = refl
served_row (k ∷ js) j h = let e : k ≡ j = cc in ap (λ i. worked i ∷ js) (sym e)
