-- `sentivolus::design::kind_of` meets its contract: each arm of the match is the definition's at that number.
use borrow.Author.Tests.{ne_eqb}
use Rattle.sentivolus.specs.Design.{kind_of}
use Rattle.sentivolus.proofs.design.kind_of.Goals as goal

pub returns-in_default : goal.returns-in_default
unfolding kind_of
returns-in_default c =
    let kind = c.args.kind in
    simp (
      ne_eqb kind 0 c.in_default.in_default-own.rest.0.0.0.0.0.0.1,
      ne_eqb kind 1 c.in_default.in_default-own.rest.0.0.0.0.0.1,
      ne_eqb kind 3 c.in_default.in_default-own.rest.0.0.0.0.1,
      ne_eqb kind 4 c.in_default.in_default-own.rest.0.0.0.1,
      ne_eqb kind 5 c.in_default.in_default-own.rest.0.0.1,
      ne_eqb kind 6 c.in_default.in_default-own.rest.0.1,
      ne_eqb kind 7 c.in_default.in_default-own.rest.1,
    )

pub returns-in-0 : goal.returns-in-0
unfolding kind_of
returns-in-0 c = rw c.in-0.is

pub returns-in-1 : goal.returns-in-1
unfolding kind_of
returns-in-1 c = rw c.in-1.is

pub returns-in-3 : goal.returns-in-3
unfolding kind_of
returns-in-3 c = rw c.in-3.is

pub returns-in-4 : goal.returns-in-4
unfolding kind_of
returns-in-4 c = rw c.in-4.is

pub returns-in-5 : goal.returns-in-5
unfolding kind_of
returns-in-5 c = rw c.in-5.is

pub returns-in-6 : goal.returns-in-6
unfolding kind_of
returns-in-6 c = rw c.in-6.is

pub returns-in-7 : goal.returns-in-7
unfolding kind_of
returns-in-7 c = rw c.in-7.is
