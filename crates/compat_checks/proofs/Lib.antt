pub mod Firsts
pub mod Lifting
pub mod Places
