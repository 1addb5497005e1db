mod Answers
