pub mod JudgedDisjuncts
pub mod LoopHeads
