-- What a reader must believe of the agent, in document 01's order: the one-session machine's tables, the rules, the step, and the agent that a host calls. The bridge calls and the replies' bytes are those of `moves`.
pub mod Local
pub mod Parents
pub mod RulesObjects
pub mod Follows
pub mod Named
pub mod TakeDown
pub mod RulesStreams
pub mod RulesAnswers
pub mod Brings
pub mod RulesFragments
pub mod Rules
pub mod Hours
pub mod Step
pub mod Claim
pub mod Repeats
pub mod Fragments
pub mod Place
pub mod Lent
pub mod Whole
-- The step over the lent rows, which the contracts cite. In every state that calls lead to it is the step above (`proofs/SquareStep.antt`).
pub mod Run
pub mod Answered
pub mod Judge
pub mod Host
pub mod Legs
pub mod Dry
pub mod Stores
